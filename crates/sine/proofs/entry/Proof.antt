-- `sine::entry` meets its contract: by the folds its answer is the ladder's.
-- Assumes nothing.
use mathlib.Core.Path.{◌≡◌, ap, ◌∙◌}
use Prim.Native.Nat.{ℕ, ◌%◌}
use native.Mathlib.Omega.{arith}
use lib.IntN.{pos}
use lib.ListN.{get_or}
use mir.Syntax.{w16}
use mir.Val.{to_z, of_z}
use borrow.Author.Rules.{rules}
use Rattle.fixed.proofs.Reading.{Reads, result, stored, answer, bound}
use Rattle.sine.specs.Sine.{kept_table, place_of, signed_at, folded_in}
use Rattle.sine.proofs.Rule.{folded_is, place_within, kept_size}
use Rattle.sine.proofs.entry.Statement.{statement}
use Rattle.sine.proofs.entry.Tie as tie

quarter-requires : tie.Need-quarter-requires
quarter-requires c κs = rw c.place.ensures (place_within (c.before.args.i % 256) (omega arith))

-- what is kept for entry i
size : (c : tie.After-quarter)
    → Reads (to_z w16 (of_z w16 c.quarter.result)) (get_or kept_table (place_of (c.before.before.args.i % 256)) (pos 0)) 4096
size c =
    let p = place_of (c.before.before.args.i % 256) in
    let e : c.quarter.result ≡ get_or kept_table p (pos 0) = c.quarter.ensures ∙ ap (λ (j : ℕ). get_or kept_table j (pos 0)) c.before.place.ensures in
    stored w16 (result e (kept_size p)) tt

returns : tie.Need-returns
unfolding folded_in
returns c =
    let k = c.before.before.before.args.i % 256 in
    (answer w16 c.signed.type_inv).is ∙ c.signed.ensures ∙ ap (signed_at k) (size c.before).is ∙ folded_is k (omega arith)

pub entry_spec : {M : Type 1} → statement M
entry_spec = tie.close (tie.spec (λ c κs. search rules) quarter-requires (λ c κs. bound (size c) tt) returns)
