-- `findings::put_accepted` meets its contract.
-- Assumes nothing.
use Rattle.writing.proofs.PageLaws.{then}
use Rattle.sheet.specs.Sheet.{sheet_text}
use Rattle.findings.specs.Phrases.{accepted}
use Rattle.findings.specs.Findings.{accepted_text}
use Rattle.findings.proofs.put_accepted.Goals as goal

pub returns-clause-put : goal.returns-clause-put
unfolding accepted_text accepted sheet_text
returns-clause-put c = rw (← c.words_of.ensures) (then c.put_text.ensures c.put_lines.ensures.put)
