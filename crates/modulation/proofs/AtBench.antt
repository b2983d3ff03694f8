-- The pulses of the bench set's period, 600, for the voltage of its flux reference, 2458 along α.
-- Assumes nothing.
use mathlib.Core.Path.{◌≡◌, refl}
use mathlib.Core.Bool.{false}
use lib.IntN.{pos}
use Rattle.fixed.specs.Fixed.{down}
use Rattle.modulation.specs.Modulation.{entries_of, bit, sector_number, sector_at, sector_of, time_of, clipped_times, times_of, compare_at, placed, modulated}

pub flux_pulses : modulated (pos 600) (pos 2458) (pos 0) ≡ record { a = pos 144; b = pos 455; c = pos 455; clipped = false }
unfolding modulated placed compare_at times_of clipped_times time_of sector_of sector_at sector_number bit entries_of down
flux_pulses = refl
