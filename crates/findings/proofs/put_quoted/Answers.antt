-- `findings::put_quoted` meets its contract.
-- Assumes nothing.
use Rattle.findings.proofs.Laws.{showing_all}
use Rattle.findings.proofs.put_quoted.Goals as goal

pub returns-clause-put : goal.returns-clause-put
returns-clause-put c = showing_all c.loop-b.invariant (λ h. (c.in-None.ensures.steps h).0) c.put_byte-2.ensures
