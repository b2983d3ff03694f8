-- `stream::ended` meets its contract: a bad line and the totals.
-- Assumes nothing.
use Rattle.writing.proofs.PageLaws.{then}
use Rattle.stream.specs.Program.{closing_text}
use Rattle.stream.proofs.ended.Goals as goal
use Rattle.stream.proofs.ended.Goals.{then-s, else-s}

pub returns-clause-put : goal.returns-clause-put
unfolding closing_text
returns-clause-put c = elim c.if-s.branch [
  | then-s w ↦ rw (w.if-s.true, ← w.next.ensures) (then w.put_bad.ensures.put (rw w.page-is at c.put_totals.ensures.put))
  | else-s w ↦ rw w.if-s.false (rw w.page-is at c.put_totals.ensures.put)
]
