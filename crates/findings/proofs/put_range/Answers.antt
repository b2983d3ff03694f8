-- `findings::put_range` meets its contract.
-- Assumes nothing.
use mir.Facts.{to_z-of_z}
use Rattle.writing.proofs.PageLaws.{then}
use Rattle.findings.specs.Phrases.{must_be}
use Rattle.findings.specs.Findings.{range_text}
use Rattle.findings.proofs.put_range.Goals as goal

pub returns-clause-put : goal.returns-clause-put
unfolding range_text must_be
returns-clause-put c = then (then (rw (to_z-of_z c.ranges.w) at c.put_is.ensures.put) c.put_text.ensures) c.put_ends.ensures.put
