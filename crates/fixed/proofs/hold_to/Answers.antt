-- `fixed::hold_to` meets its contract: what is held between two 32-bit limits is a 32-bit number.
-- Assumes nothing.
use Rattle.std.proofs.Common.{rules}
use Rattle.fixed.proofs.HeldLaws.{held_to}
use Rattle.fixed.proofs.hold_to.Goals as goal

pub overflow_cast-result : goal.overflow_cast-result
overflow_cast-result c = search (rules, held_to)

pub returns : goal.returns
returns c = search (rules, held_to)
