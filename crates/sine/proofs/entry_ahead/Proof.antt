-- `sine::entry_ahead` meets its contract: its place is the other one from the end, and by the folds its answer is the ladder's.
-- Assumes nothing.
use mathlib.Core.Path.{◌≡◌, ap, sym, ◌∙◌}
use Prim.Native.Nat.{ℕ, ◌+◌, ◌-◌, ◌%◌, ◌≤◌}
use native.Mathlib.Omega.{arith}
use lib.IntN.{pos}
use lib.ListN.{get_or}
use mir.Syntax.{w16}
use mir.Val.{to_z, of_z}
use borrow.Author.Rules.{rules}
use Rattle.fixed.proofs.Reading.{Reads, result, stored, answer, bound}
use Rattle.sine.specs.Sine.{sine_entry, kept_table, place_of, signed_at, folded_in}
use Rattle.sine.proofs.Rule.{folded_is, place_within, place_ahead, kept_size}
use Rattle.sine.proofs.entry_ahead.Statement.{statement}
use Rattle.sine.proofs.entry_ahead.Tie as tie

within : (c : tie.After-place) → c.place.result ≤ 64
within c = rw c.place.ensures (place_within (c.before.args.i % 256) (omega arith))

-- the index of the entry
abbrev ahead : ℕ → ℕ
ahead i = (i % 256 + 64) % 256

size : (c : tie.After-quarter)
    → Reads (to_z w16 (of_z w16 c.quarter.result)) (get_or kept_table (place_of (ahead c.before.before.args.i)) (pos 0)) 4096
size c =
    let i = c.before.before.args.i in
    let e : 64 - c.before.place.result ≡ place_of (ahead i)
    = ap (λ (j : ℕ). 64 - j) c.before.place.ensures ∙ sym (place_ahead (i % 256) (omega arith)) in
    let r : c.quarter.result ≡ get_or kept_table (place_of (ahead i)) (pos 0) = c.quarter.ensures ∙ ap (λ (j : ℕ). get_or kept_table j (pos 0)) e in
    stored w16 (result r (kept_size (place_of (ahead i)))) tt

returns : tie.Need-returns
unfolding folded_in
returns c =
    let i = c.before.before.before.args.i in
    let e : ahead i ≡ (i + 64) % 256 = omega arith in
    (answer w16 c.signed.type_inv).is ∙ c.signed.ensures ∙ ap (signed_at (ahead i)) (size c.before).is ∙ folded_is (ahead i) (omega arith) ∙ ap sine_entry e

pub entry_ahead_spec : {M : Type 1} → statement M
entry_ahead_spec =
    tie.close
    (tie.spec (λ c. search rules) (λ c κs. search rules) (λ c. within c) (λ c κs. search rules) (λ c κs. bound (size c) tt) returns)
