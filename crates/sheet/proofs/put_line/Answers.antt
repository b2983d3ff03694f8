-- `sheet::put_line` meets its contract.
-- Assumes nothing.
use Rattle.writing.proofs.PageLaws.{then}
use Rattle.sheet.specs.Sheet.{line_text}
use Rattle.sheet.proofs.put_line.Goals as goal

pub returns-clause-put : goal.returns-clause-put
unfolding line_text
returns-clause-put c =
    rw (← c.field_at-f.ensures.key, ← c.field_at-f.ensures.gain) (then c.put_text.ensures (then c.put_value.ensures.put c.put_byte.ensures))
