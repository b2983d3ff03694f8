-- `field::fine_next` meets its contract: the gap and the change fit.
-- Assumes nothing.
use Prim.Native.Nat.{◌+◌, ◌*◌, ◌/◌}
use lib.IntN.{◌+ℤ◌, ◌-ℤ◌, pos, ◌*ℤ◌}
use mir.Syntax.{w32, w64}
use Rattle.fixed.specs.Fixed.{down}
use Rattle.fixed.proofs.Reading.{Reads, sized, lit, plus, minus, times, lowered, stored, fits, m32, m64}
use Rattle.field.specs.Field.{fine_next, fine_end}
use Rattle.field.proofs.fine_next.Goals as goal

change : (c : goal.After-scaled-change) → Reads (m64 c.scaled-change.result)
    (down (c.args.kr *ℤ (pos 4096 *ℤ c.args.d -ℤ c.args.fine)) (pos 4096)) (4096 * (fine_end + fine_end) / 4096 + 1)
change c =
    let wanted = stored w32 (times (lit (pos 4096)) (sized c.ranges.d c.requires.2)) tt in
    let gap = stored w32 (minus wanted (sized c.ranges.fine c.requires.1)) tt in
    stored w64 (lowered 4096 tt c.scaled-change.ensures (times (sized c.ranges.kr c.requires.0) gap)) tt

next : (c : goal.After-scaled-change) → Reads (m32 c.args.fine +ℤ m32 (m64 c.scaled-change.result))
    (fine_next c.args.kr c.args.fine c.args.d) (fine_end + (4096 * (fine_end + fine_end) / 4096 + 1))
unfolding fine_next
next c = plus (sized c.ranges.fine c.requires.1) (stored w32 (change c) tt)

pub overflow_cast-change : goal.overflow_cast-change
overflow_cast-change c = fits (change c) tt

pub overflow_add-result : goal.overflow_add-result
overflow_add-result c = fits (next c) tt

pub returns : goal.returns
returns c = (stored w32 (next c) tt).is
