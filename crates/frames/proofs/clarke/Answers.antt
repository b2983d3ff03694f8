-- `frames::clarke` meets its contract: β is small.
-- Assumes nothing.
use mathlib.Core.Path.{ap₂}
use lib.IntN.{ℤ, pos}
use mir.Syntax.{w32, w64}
use Rattle.fixed.proofs.Reading.{Reads, m64, sized, lit, plus, times, lowered, stored, fits}
use Rattle.frames.specs.Frames.{clarke}
use Rattle.frames.proofs.clarke.Goals as goal

beta : (c : goal.After-scaled-beta) → Reads (m64 c.scaled-beta.result) (clarke c.args.ia c.args.ib).beta 14189
unfolding clarke
beta c =
    let twice = stored w32 (times (lit (pos 2)) (sized c.ranges.ib c.requires.1)) tt in
    let both = stored w32 (plus twice (sized c.ranges.ia c.requires.0)) tt in
    stored w64 (lowered 4096 tt c.scaled-beta.ensures (times both (lit (pos 2365)))) tt

pub overflow_cast-beta : goal.overflow_cast-beta
overflow_cast-beta c = fits (beta c) tt

pub returns : goal.returns
unfolding clarke
returns c = ap₂ (λ (a b : ℤ). record { alpha = a; beta = b }) (sized c.ranges.ia c.requires.0).is (stored w32 (beta c) tt).is
