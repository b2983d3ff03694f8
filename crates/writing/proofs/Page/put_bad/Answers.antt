-- `writing::Page::put_bad` meets its contract.
-- Assumes nothing.
use Rattle.writing.specs.Decimal.{bad_text}
use Rattle.writing.proofs.PageLaws.{then}
use Rattle.writing.proofs.Page.put_bad.Goals as goal

pub returns-clause-put : goal.returns-clause-put
unfolding bad_text
returns-clause-put c = then (then c.put_text.ensures c.put_count.ensures.put) c.put_text-2.ensures
