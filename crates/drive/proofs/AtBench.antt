-- The bench drive from fresh: its first step, with no current; then it trips on a sample of 9000, and tripped it refuses the next. What the rules give at
-- these numbers is cited from the crates that own them; only the calls and the order of the rules are opened.
-- Assumes nothing.
use mathlib.Core.Path.{◌≡◌, refl}
use mathlib.Core.Bool.{true, false}
use lib.IntN.{pos}
use Rattle.fixed.specs.Fixed.{inside}
use Rattle.settings.specs.BenchSettings.{bench_settings}
use Rattle.drive_record.specs.declared.Drive.{Drive}
use Rattle.drive_record.specs.Record.{target_end, broken}
use Rattle.drive_record.proofs.Ranges.{Sound, not_broken}
use Rattle.stages.specs.Step.{with_shaft, rules_1_and_2, currents, field_after, with_field, outcome, rules_6_to_9, rules_3_to_9, advanced}
use Rattle.stages.specs.Step.{current_gains, current_regulated, d_regulated, q_regulated, voltage_of, voltage_for}
use Rattle.stages.proofs.AtBench as value
use Rattle.drive.specs.Calls.{fresh, with_trip, refused, stepped}
use Rattle.drive.proofs.Kept.{fresh_sound, trip_sound, stepped_sound_lem}

pub bench_sound : Sound (fresh bench_settings)
bench_sound = fresh_sound bench_settings value.bench_accepted

pub bench_intact : broken (fresh bench_settings) ≡ false
bench_intact = (not_broken (fresh bench_settings)).1 bench_sound

-- after the first step
unfoldable pub once : Drive
once = let d = fresh bench_settings in with_field (with_shaft d (value.standing (pos 1))) d.field (record { speed = pos 0; d = pos 153; q = pos 0 })

pub first : stepped (fresh bench_settings) (pos 0) (pos 0) (pos 0) ≡ record {
  drive = once;
  number = pos 0;
  pulses = record { a = pos 144; b = pos 455; c = pos 455; clipped = false };
  voltage = record { alpha = pos 2458; beta = pos 0 };
}
unfolding once stepped advanced rules_3_to_9 rules_6_to_9 outcome with_field field_after voltage_for voltage_of d_regulated q_regulated current_regulated current_gains
    rules_1_and_2 with_shaft currents fresh
first =
    rw (bench_intact, (value.samples).0, value.bench_is, (value.start).0, (value.start).1, value.sine_at_0, value.cosine_at_0, (value.seen).0)
    (rw ((value.from_zero).0, (value.from_zero).1, value.turned_back, value.flux_pulses, value.stays_still))

once_sound : Sound once
once_sound = rw first at (stepped_sound_lem (fresh bench_settings) (pos 0) (pos 0) (pos 0) bench_sound)

-- the tables, of a sound record
pub second : stepped once (pos 9000) (pos 0) (pos 0) ≡ refused (with_trip once) (pos 600) (pos 6)
unfolding once stepped with_field with_shaft fresh
second = rw ((not_broken once).1 once_sound, (value.samples).3, value.bench_is)

pub third : stepped (with_trip once) (pos 0) (pos 0) (pos 0) ≡ refused (with_trip once) (pos 600) (pos 7)
unfolding once stepped with_trip with_field with_shaft fresh
third = rw ((not_broken (with_trip once)).1 (trip_sound once once_sound), value.bench_is)

-- a target that is taken, and one that is not
pub targets : (inside (pos target_end) (pos 100) ≡ true) × (inside (pos target_end) (pos 8192) ≡ false)
unfolding inside
targets = (refl, refl)
