-- What is left once the first lines are passed.
-- Assumes nothing.
use Rattle.findings.proofs.Laws.{Left}
use Rattle.findings.proofs.from_line.Given as goal

abbrev pub invariant-loop : goal.invariant-loop
invariant-loop l = Left l.text l.rest l.counter
