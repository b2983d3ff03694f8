-- `findings::put_answer` meets its contract.
-- Assumes nothing.
use mathlib.Core.Path.{sym, ◌∙◌}
use Rattle.findings.specs.Findings.{told_text, answer_text}
use Rattle.findings.proofs.put_answer.Goals as goal

pub returns-in-Ok-clause-put : goal.returns-in-Ok-clause-put
unfolding answer_text told_text
returns-in-Ok-clause-put c = rw (sym c.lines.ensures ∙ c.in-Ok.is) c.put_judged.ensures.put

pub returns-in-Err-clause-put : goal.returns-in-Err-clause-put
unfolding answer_text told_text
returns-in-Err-clause-put c = rw (sym c.lines.ensures ∙ c.in-Err.is, ← c.from_line.ensures) c.put_fault.ensures.put
