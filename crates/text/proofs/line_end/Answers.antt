-- `text::line_end` meets its contract.
-- Assumes nothing.
use Rattle.std.proofs.Common.{rules}
use Rattle.text.specs.Automaton.{line_end, numbers_end, takes, word_start}
use Rattle.text.proofs.line_end.Goals as goal

pub returns-in-Some : goal.returns-in-Some
unfolding line_end numbers_end takes word_start
returns-in-Some c = search rules

pub returns-in_default : goal.returns-in_default
unfolding line_end numbers_end takes word_start
returns-in_default c = search rules
