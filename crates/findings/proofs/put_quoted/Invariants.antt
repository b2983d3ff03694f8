-- What stands once so many bytes are shown.
-- Assumes nothing.
use Rattle.findings.proofs.Laws.{Showing}
use Rattle.findings.proofs.put_quoted.Given as goal

abbrev pub invariant-loop-b : goal.invariant-loop-b
invariant-loop-b l = Showing l.line l.fn.page l.page l.b-iterator.iter.rest.now l.b-iterator.n
