-- The flux model where it falls, where it goes far and below zero; and the slip's edge.
-- Assumes nothing.
use mathlib.Core.Path.{◌≡◌, refl}
use lib.IntN.{pos, negsuc}
use Rattle.fixed.specs.Fixed.{down, held}
use Rattle.field.specs.Field.{fine_next, flux_of, slip}

-- falling, by 1: 75·(−1)/4096 is −1 down, and towards zero it would be 0
fine_falls : fine_next (pos 75) (pos 10067969) (pos 2458) ≡ pos 10067968
unfolding fine_next down
fine_falls = refl

-- from the lowest word to the current of the greatest sample in one step: the product, 4096·115470336, needs 64 bits
fine_far : fine_next (pos 4096) (negsuc 81919999) (pos 8191) ≡ pos 33550336
unfolding fine_next down
fine_far = refl

-- below zero the flux is rounded down too
flux_below : (flux_of (negsuc 0) ≡ negsuc 0) × (flux_of (negsuc 4095) ≡ negsuc 0) × (flux_of (negsuc 4096) ≡ negsuc 1)
unfolding flux_of down
flux_below = (refl, refl, refl)

-- the slip's edge: none at a flux of 40, a quotient at 41
slip_edge : (slip (pos 310) (pos 40) (pos 100) ≡ pos 0) × (slip (pos 310) (pos 41) (pos 100) ≡ pos 756) × (slip (pos 310) (pos 41) (negsuc 99) ≡ negsuc 756)
unfolding slip down held
slip_edge = (refl, refl, refl)
