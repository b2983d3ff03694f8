-- Two products are rounded as one sum: at 45 degrees (1, 1) has d = 5792/4096 down = 1, where rounded apart they would give 0 + 0.
-- Assumes nothing.
use mathlib.Core.Path.{◌≡◌, refl}
use lib.IntN.{pos}
use Rattle.fixed.specs.Fixed.{down}
use Rattle.frames.specs.Frames.{park}

rounded_once : park (record { alpha = pos 1; beta = pos 1 }) (pos 2896) (pos 2896) ≡ record { d = pos 1; q = pos 0 }
unfolding park down
rounded_once = refl
