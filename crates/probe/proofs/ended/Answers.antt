-- `probe::ended` meets its contract: where no byte of a line came nothing is written.
-- Assumes nothing.
use Rattle.std.proofs.Common.{arith}
use Rattle.writing.proofs.PageLaws.{none}
use Rattle.probe.proofs.ended.Goals as goal

pub returns-else-s-clause-put : goal.returns-else-s-clause-put
returns-else-s-clause-put c = rw c.if-s.false (none c.args.page.now (omega (arith, c.requires)))
