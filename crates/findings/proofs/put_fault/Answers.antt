-- `findings::put_fault` meets its contract.
-- Assumes nothing.
use Rattle.writing.proofs.PageLaws.{then}
use Rattle.findings.specs.Phrases.{line17, expected, found}
use Rattle.findings.specs.Findings.{fault_text}
use Rattle.findings.proofs.put_fault.Goals as goal

pub returns-clause-put : goal.returns-clause-put
unfolding fault_text line17 expected found
returns-clause-put c =
    let number = then c.put_text.ensures c.put_count.ensures.put in
    let should = then (then number c.put_text-2.ensures) c.put_expected.ensures.put in
    then (then (then should c.put_text-3.ensures) c.put_found.ensures.put) c.put_byte.ensures
