-- `values::digits` meets its contract.
-- Assumes nothing.
use Rattle.values.proofs.CodeLaws.{Reading}
use Rattle.values.proofs.digits.Given as goal

abbrev pub invariant-loop-b : goal.invariant-loop-b
invariant-loop-b l = Reading l.s l.value l.b-index
