-- The regulator with the bench set's current gains and limits, from 0: for the error 2458, its flux reference, and for none.
-- Assumes nothing.
use mathlib.Core.Path.{◌≡◌, refl}
use lib.IntN.{ℤ, pos}
use Rattle.fixed.specs.Fixed.{down, held}
use Rattle.regulator.specs.declared.Gains.{Gains}
use Rattle.regulator.specs.declared.Regulated.{Regulated}
use Rattle.regulator.specs.Regulator.{sum_of, out_of, next_of, regulated}

abbrev bench : Gains
bench = record { kp = pos 4096; kcor = pos 256; ki = pos 256 }

abbrev gives : ℤ → ℤ → Regulated
gives out x = record { out = out; x = x }

pub from_zero :
    (regulated (pos 0) (pos 2458) bench (pos 4096) ≡ gives (pos 2458) (pos 153))
    × (regulated (pos 0) (pos 0) bench (pos 4096) ≡ gives (pos 0) (pos 0))
unfolding regulated out_of next_of sum_of down held
from_zero = (refl, refl)
