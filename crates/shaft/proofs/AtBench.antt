-- A shaft that stands at count 0: what the first step and a tick make of it; and the ramp's first move. With the bench set's Kn 64 and R 41.
-- Assumes nothing.
use Rattle.std.proofs.Common.{◌≡◌, true, false, ℤ, pos, negsuc, refl}
use Rattle.fixed.specs.Fixed.{down, modulo, held}
use Rattle.shaft.specs.declared.Shaft.{Shaft}
use Rattle.shaft.specs.Shaft.{signed16, movement, moved, counted, thirtieth, speed_of, measured, ramped_to, unmoved}
use Rattle.shaft.proofs.ShaftRanges.{ShaftIn}

-- it has stood for so many steps of the window
abbrev pub standing : ℤ → Shaft
standing steps = record { count = pos 0; seen = true; sum = pos 0; steps = steps; speed = pos 0 }

pub standing_in : ShaftIn (standing (pos 29))
standing_in = record { count = refl; steps = refl; sum = refl; speed = refl }

pub start : (thirtieth unmoved ≡ false) × (counted unmoved (pos 0) ≡ standing (pos 1))
unfolding thirtieth counted moved
start = (refl, refl)

pub tick : (thirtieth (standing (pos 29)) ≡ true) × (measured (counted (standing (pos 29)) (pos 0)) (pos 64) ≡ standing (pos 0))
unfolding thirtieth counted moved movement signed16 modulo down measured speed_of held
tick = (refl, refl)

pub ramp : (ramped_to (pos 0) (pos 100) (pos 41) ≡ pos 41) × (ramped_to (pos 0) (negsuc 99) (pos 41) ≡ negsuc 40)
unfolding ramped_to held
ramp = (refl, refl)
