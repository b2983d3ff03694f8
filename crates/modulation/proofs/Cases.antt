-- The clipped case of docs/RULES.md, (4096, 4096) at T 600, computed from the definition itself.
-- Assumes nothing.
use mathlib.Core.Path.{◌≡◌, refl}
use mathlib.Core.Bool.{true}
use lib.IntN.{pos}
use Rattle.fixed.specs.Fixed.{down}
use Rattle.modulation.specs.Modulation.{entries_of, bit, sector_number, sector_at, sector_of, time_of}
use Rattle.modulation.specs.Modulation.{share_of, cut, clipped_times, times_of, compare_at, placed, modulated}

pub clipped_case : modulated (pos 600) (pos 4096) (pos 4096) ≡ record { a = pos 0; b = pos 160; c = pos 599; clipped = true }
unfolding modulated placed compare_at times_of clipped_times cut share_of time_of sector_of sector_at sector_number bit entries_of down
clipped_case = refl
