-- `rows::clipped_in` meets its contract.
-- Assumes nothing.
use Rattle.std.proofs.Common.{rules, ◌≡◌, refl, ap, ◌∙◌, arith, Bool, ◌&&◌, of_z, w32}
use lib.Dec.{eqb}
use mir.Val.{SFits, bool_byte}
use Rattle.fixed.proofs.Same.{same_word}
use Rattle.stages.specs.declared.Stepped.{Stepped}
use Rattle.rows.specs.Rows.{is_accepted, is_clipped, one}
use Rattle.rows.proofs.Runs.{one_byte}
use Rattle.rows.proofs.clipped_in.Goals as goal

clipped_byte : (s : Stepped) → SFits w32 s.number → bool_byte (eqb (of_z w32 s.number) 0 && s.pulses.clipped) ≡ one (is_clipped s)
unfolding is_clipped is_accepted
clipped_byte s f = ap (λ (b : Bool). bool_byte (b && s.pulses.clipped)) (same_word 0 refl f) ∙ one_byte _

pub returns : goal.returns
returns c = let f : SFits w32 c.args.s.number = search rules in search (rules, arith, clipped_byte c.args.s f)
