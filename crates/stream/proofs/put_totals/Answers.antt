-- `stream::put_totals` meets its contract.
-- Assumes nothing.
use Rattle.writing.proofs.PageLaws.{then}
use Rattle.stream.specs.Program.{totals_text}
use Rattle.stream.proofs.put_totals.Goals as goal

pub returns-clause-put : goal.returns-clause-put
unfolding totals_text
returns-clause-put c =
    then (then (then (then c.put_text.ensures c.put_count.ensures.put) c.put_text-2.ensures) c.put_count-2.ensures.put) c.put_byte.ensures
