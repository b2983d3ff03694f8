-- `findings::put_product` meets its contract.
-- Assumes nothing.
use Rattle.writing.proofs.PageLaws.{then}
use Rattle.findings.specs.Phrases.{times}
use Rattle.findings.specs.Findings.{product_text}
use Rattle.findings.proofs.put_product.Goals as goal

pub returns-clause-put : goal.returns-clause-put
unfolding product_text times
returns-clause-put c = then (then c.put_name.ensures.put c.put_text.ensures) c.put_name-2.ensures.put
