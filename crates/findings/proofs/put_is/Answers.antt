-- `findings::put_is` meets its contract.
-- Assumes nothing.
use mir.Facts.{to_z-of_z}
use Rattle.writing.proofs.PageLaws.{then}
use Rattle.findings.specs.Phrases.{is}
use Rattle.findings.specs.Findings.{is_text}
use Rattle.findings.proofs.put_is.Goals as goal

pub returns-clause-put : goal.returns-clause-put
unfolding is_text is
returns-clause-put c = then (then c.put_name.ensures.put c.put_text.ensures) (rw (to_z-of_z c.ranges.w) at c.put_word.ensures.put)
