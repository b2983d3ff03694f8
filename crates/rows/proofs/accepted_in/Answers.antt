-- `rows::accepted_in` meets its contract.
-- Assumes nothing.
use Rattle.std.proofs.Common.{rules, refl, ap, ◌∙◌, w32}
use mir.Val.{SFits, bool_byte}
use Rattle.fixed.proofs.Same.{same_word}
use Rattle.rows.specs.Rows.{is_accepted}
use Rattle.rows.proofs.Runs.{one_byte}
use Rattle.rows.proofs.accepted_in.Goals as goal

pub returns : goal.returns
unfolding is_accepted
returns c = let f : SFits w32 c.args.s.number = search rules in c.from.ensures ∙ ap bool_byte (same_word 0 refl f) ∙ one_byte _
