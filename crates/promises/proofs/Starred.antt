-- The eleven starred cases of docs/RULES.md, one list under one claim, of the definitions themselves: the checker computes each.
-- Assumes nothing.
use mathlib.Core.Path.{refl}
use Rattle.fixed.specs.Fixed.{down, modulo, held}
use Rattle.regulator.specs.Regulator.{sum_of, out_of, next_of, regulated}
use Rattle.frames.specs.Frames.{clarke}
use Rattle.field.specs.Field.{fine_next, flux_of, angle_next}
use Rattle.field.specs.Promised.{held_for}
use Rattle.modulation.specs.Modulation.{entries_of, bit, sector_number, sector_at, sector_of, time_of, clipped_times, times_of, compare_at, placed, modulated}
use Rattle.promises.specs.Starred.{cases, AllHold, StarredHold}

pub starred : StarredHold
unfolding cases AllHold down modulo held sum_of out_of next_of regulated clarke fine_next flux_of held_for angle_next
    entries_of bit sector_number sector_at sector_of time_of clipped_times times_of compare_at placed modulated
starred = (refl, (refl, (refl, (refl, (refl, (refl, (refl, (refl, (refl, (refl, (refl, (refl, tt))))))))))))
