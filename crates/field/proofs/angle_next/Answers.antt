-- `field::angle_next` meets its contract.
-- Assumes nothing.
use borrow.Author.Rules.{rules}
use mathlib.Core.Path.{◌∙◌}
use lib.IntN.{pos, ◌+ℤ◌, ◌*ℤ◌}
use mir.Syntax.{w32, w64}
use Rattle.fixed.specs.Fixed.{down}
use Rattle.fixed.proofs.Reading.{Reads, sized, result, plus, times, lowered, stored, fits, m64}
use Rattle.field.specs.Field.{angle_next}
use Rattle.field.proofs.Turns.{turning}
use Rattle.field.proofs.angle_next.Goals as goal

-- the angle before it is brought round
far : (c : goal.After-scaled)
    → Reads (m64 c.from.result +ℤ m64 c.scaled.result) (c.args.angle +ℤ down (c.args.kth *ℤ (c.args.n +ℤ c.args.s)) (pos 4096)) 131060
far c =
    let angle = sized c.ranges.angle c.requires.1 in
    let rate = stored w32 (plus (sized c.ranges.n c.requires.2) (sized c.ranges.s c.requires.3)) tt in
    plus (stored w64 (result (c.from.ensures ∙ angle.is) c.requires.1) tt)
    (stored w64 (lowered 4096 tt c.scaled.ensures (times (sized c.ranges.kth c.requires.0) rate)) tt)

pub overflow_add-a : goal.overflow_add-a
overflow_add-a c = fits (far c) tt

-- and after it
pub returns : goal.returns
unfolding angle_next
returns c = let far_is = (stored w64 (far c.before) tt).is in search (rules, turning, far_is)
