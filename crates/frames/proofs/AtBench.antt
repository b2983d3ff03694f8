-- At angle 0, where the sine is 0 and the cosine 4096: what is seen of the currents ia 0, 3000 and −3000 with ib 0, and of 2458 with −1229, which is d alone;
-- and the voltage 2458 along d.
-- Assumes nothing.
use mathlib.Core.Path.{◌≡◌, refl}
use lib.IntN.{pos, negsuc}
use Rattle.fixed.specs.Fixed.{down}
use Rattle.frames.specs.Frames.{clarke, park, inverse_park}

pub seen :
    (park (clarke (pos 0) (pos 0)) (pos 0) (pos 4096) ≡ record { d = pos 0; q = pos 0 })
    × (park (clarke (pos 3000) (pos 0)) (pos 0) (pos 4096) ≡ record { d = pos 3000; q = pos 1732 })
    × (park (clarke (negsuc 2999) (pos 0)) (pos 0) (pos 4096) ≡ record { d = negsuc 2999; q = negsuc 1732 })
unfolding clarke park down
seen = (refl, refl, refl)

pub along_d : park (clarke (pos 2458) (negsuc 1228)) (pos 0) (pos 4096) ≡ record { d = pos 2458; q = pos 0 }
unfolding clarke park down
along_d = refl

pub turned_back : inverse_park (record { d = pos 2458; q = pos 0 }) (pos 0) (pos 4096) ≡ record { alpha = pos 2458; beta = pos 0 }
unfolding inverse_park down
turned_back = refl
