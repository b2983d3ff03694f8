-- `sheet::lines` meets its contract.
-- Assumes nothing.
use Rattle.sheet.proofs.Walking.{Walking}
use Rattle.sheet.proofs.lines.Given as goal

abbrev pub invariant-loop-i : goal.invariant-loop-i
invariant-loop-i l = Walking l.text l.word-items l.rest l.i
