-- What stands once the first i lines are put.
-- Assumes nothing.
use Rattle.std.proofs.Common.{◌≤◌, ◌+◌, ◌*◌}
use Rattle.writing.specs.Page.{Put}
use Rattle.sheet.proofs.Putting.{firsts}
use Rattle.sheet.proofs.put_lines.Given as goal

abbrev pub invariant-loop-i : goal.invariant-loop-i
invariant-loop-i l = Put l.initial.page l.page (firsts l.fn.words l.i) × (l.page.at ≤ l.initial.page.at + 40 * l.i)
