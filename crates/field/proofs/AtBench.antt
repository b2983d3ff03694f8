-- A field that is still, with the bench set's Kr 75, Kt 310 and Kth 164: with no current and no speed it stays so.
-- Assumes nothing.
use mathlib.Core.Path.{◌≡◌, refl}
use lib.IntN.{pos}
use Rattle.fixed.specs.Fixed.{down, modulo}
use Rattle.field.specs.Field.{fine_next, flux_of, slip, angle_next, followed, still}

pub stays_still : followed (pos 75) (pos 310) (pos 164) still (pos 0) (pos 0) (pos 0) ≡ still
unfolding followed fine_next flux_of slip angle_next modulo down
stays_still = refl
