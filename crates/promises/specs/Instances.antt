-- No promise is empty: what each asks is met, by the bench set from fresh and by drives with it.
use Rattle.std.specs.Prelude.{◌≡◌, true, false, List, [], ◌∷◌, ◌*◌, ◌≤◌, ℤ, pos, negsuc, nat_abs, ◌-ℤ◌, ◌*ℤ◌, ◌<ℤ◌, ◌≤ℤ◌}
use Rattle.fixed.specs.Ladder.{Reached}
use Rattle.sine.specs.Sine.{Angle}
use Rattle.shaft.specs.Shaft.{thirtieth}
use Rattle.settings.specs.declared.Settings.{Settings}
use Rattle.settings.specs.BenchSettings.{bench_with, bench_settings}
use Rattle.settings.specs.Settings.{accepted}
use Rattle.drive_record.specs.declared.Drive.{Drive}
use Rattle.drive_record.specs.Record.{broken}
use Rattle.stages.specs.Step.{with_shaft, with_field}
use Rattle.drive.specs.Calls.{fresh, with_trip, step_table, stepped, with_target, target_table, clear_table}
use Rattle.rows.specs.Rows.{no_rows, run_table}
use Rattle.ring.specs.Ring.{in_range}
use Rattle.moments.specs.declared.Moments.{Moments}
use Rattle.moments.specs.Moments.{zeros, none, real_rows, found, moment_at}
use Rattle.moments.specs.Recordings.{stepping as recording, after_all, Rings}
use Rattle.promises.specs.Histories.{Call, stepping, aiming, clearing, running, History, row_at, Quiet, steps_of, NoClear}
use Rattle.promises.specs.Words.{d_error, q_error, next, speed_error}
use Rattle.promises.specs.Flux.{HeldAt}

-- ════ the drives
-- the bench set, fresh
abbrev pub rested : Drive
rested = fresh bench_settings

-- before a tick: it has a target, and its shaft has stood for 29 steps
unfoldable pub waiting : ℤ → Drive
waiting target = with_shaft (with_target rested target) (record { count = pos 0; seen = true; sum = pos 0; steps = pos 29; speed = pos 0 })

-- settings that are refused, the bench set with the gains 4.0, 0.125, 0.125, which are not tied; so a record with them is broken
abbrev pub untied : Settings
untied = bench_with (pos 16384) (pos 512) (pos 512)

abbrev pub spoiled : Drive
spoiled = fresh untied

-- ════ demand 1: each row of a table, the first being 0, applies to some call, and to another none does. A run is refused for samples that are not in
-- threes, and for an output that is too short
abbrev pub three_zeros : List ℤ
three_zeros = pos 0 ∷ pos 0 ∷ pos 0 ∷ []

abbrev pub four_zeros : List ℤ
four_zeros = pos 0 ∷ three_zeros

pub record TablesMet : Type 0 where
  pub settings : (accepted bench_settings ≡ true) × (accepted untied ≡ false)
  pub step :
      Reached (step_table spoiled (pos 0) (pos 0) (pos 0)) 0
      × Reached (step_table (with_trip rested) (pos 0) (pos 0) (pos 0)) 1
      × Reached (step_table rested (pos 9000) (pos 0) (pos 0)) 2
      × Reached (step_table rested (pos 0) (pos 0) (pos 0)) 3
  pub target :
      Reached (target_table spoiled (pos 0)) 0
      × Reached (target_table (with_trip rested) (pos 0)) 1
      × Reached (target_table rested (pos 8192)) 2
      × Reached (target_table rested (pos 100)) 3
  pub clear : Reached (clear_table spoiled) 0 × Reached (clear_table rested) 1 × Reached (clear_table (with_trip rested)) 2
  pub run :
      Reached (run_table spoiled three_zeros four_zeros (no_rows spoiled)) 0
      × Reached (run_table rested four_zeros four_zeros (no_rows rested)) 1
      × Reached (run_table rested three_zeros three_zeros (no_rows rested)) 1
      × Reached (run_table rested three_zeros four_zeros (no_rows rested)) 2

-- ════ demands 2 and 3: a step of drive d with current ia, ib and count being 0, is taken
abbrev pub Taken : Drive → ℤ → Type 0
Taken d ia = (stepped d ia (pos 0) (pos 0)).number ≡ pos 0

-- between two ticks, from an angle: one that is not clipped, one with the errors of both currents negative, one with both worth a count
pub record StepsMet : Type 0 where
  pub angle : Angle rested.field.angle
  pub plain : Taken rested (pos 0) × (thirtieth rested.shaft ≡ false) × ((stepped rested (pos 0) (pos 0) (pos 0)).pulses.clipped ≡ false)
  pub forth : Taken rested (pos 3000)
  pub negative : (d_error rested (pos 3000) (pos 0) (pos 0) <ℤ pos 0) × (q_error rested (pos 3000) (pos 0) (pos 0) <ℤ pos 0)
  pub back : Taken rested (negsuc 2999)
  pub worth :
      (pos 4096 ≤ℤ (d_error rested (negsuc 2999) (pos 0) (pos 0) *ℤ rested.settings.ckp))
      × (pos 4096 ≤ℤ (q_error rested (negsuc 2999) (pos 0) (pos 0) *ℤ rested.settings.ckp))

-- and one that is clipped, at the end of both current integrals: the voltage is the one of docs/RULES.md, "Cases to hold a drive to"
unfoldable pub pressed : Drive
pressed = with_field rested rested.field (record { speed = pos 0; d = pos 4096; q = pos 4096 })

pub record ClippedMet : Type 0 where
  pub taken : Taken pressed (pos 0)
  pub pulses : (stepped pressed (pos 0) (pos 0) (pos 0)).pulses ≡ record { a = pos 0; b = pos 160; c = pos 599; clipped = true }
  pub voltage : (stepped pressed (pos 0) (pos 0) (pos 0)).voltage ≡ record { alpha = pos 4096; beta = pos 4096 }

-- ticks: one with the speed's error negative, one with it worth a count; and a row that is one
pub record TicksMet : Type 0 where
  pub down : Taken (waiting (negsuc 99)) (pos 0) × (thirtieth (waiting (negsuc 99)).shaft ≡ true)
  pub negative : speed_error (waiting (negsuc 99)) (pos 0) (pos 0) (pos 0) <ℤ pos 0
  pub up : Taken (waiting (pos 100)) (pos 0) × (thirtieth (waiting (pos 100)).shaft ≡ true)
  pub worth : pos 4096 ≤ℤ (speed_error (waiting (pos 100)) (pos 0) (pos 0) (pos 0) *ℤ (waiting (pos 100)).settings.skp)
  pub row : (row_at (waiting (pos 100)) three_zeros 0).number ≡ pos 0

-- ════ histories: one with no call yet
abbrev pub HistoryMet : Type 0
HistoryMet = History rested

-- calls that leave the target and trip nothing: a target and a clear that are refused, a run of no rows, and a tick
abbrev pub quiet : List Call
quiet = aiming (pos 8192) ∷ clearing ∷ running [] [] ∷ stepping (pos 0) (pos 0) (pos 0) ∷ []

pub record QuietMet : Type 0 where
  pub intact : broken (waiting (pos 100)) ≡ false
  pub untripped : (waiting (pos 100)).tripped ≡ false
  pub calls : Quiet (waiting (pos 100)) quiet
  pub none_clears : NoClear (waiting (pos 100)) quiet

-- ════ the flux: at rest it stays; and with 75 to go to 4096·3000, one step that sees 3000 is enough where Kr is 75
unfoldable pub rising : Drive
rising = with_field rested (record { fine = pos 12287925; angle = pos 0 }) rested.integrals

abbrev pub one_step : List Call
one_step = stepping (pos 3000) (pos 0) (pos 0) ∷ []

pub record FluxMet : Type 0 where
  pub rests : (next rested (pos 0) (pos 0) (pos 0)).field.fine ≡ rested.field.fine
  pub intact : broken rising ≡ false
  pub none_clears : NoClear rising one_step
  pub held : HeldAt (pos 3000) rising one_step
  pub enough : nat_abs (pos 4096 *ℤ pos 3000 -ℤ rising.field.fine) ≤ nat_abs rising.settings.kr * steps_of rising one_step

-- ════ the last moments: a recorded step of the drive at rest is read as the one row; and a record has a count out of range
abbrev pub recorded_once : Moments
recorded_once = (after_all (rested, none) (recording (pos 0) (pos 0) (pos 0) ∷ [])).1

abbrev pub astray : Moments
astray = record { ia = zeros; ib = zeros; speed = zeros; a = zeros; b = zeros; c = zeros; next = pos 128; real = pos 0 }

pub record MomentsMet : Type 0 where
  pub how_many : real_rows recorded_once ≡ 1
  pub first : moment_at recorded_once (pos 0)
      ≡ found (pos 0) (record { ia = pos 0; ib = pos 0; speed = pos 0; a = pos 144; b = pos 455; c = pos 455 })
  pub wild : Rings astray × (in_range astray.next astray.real ≡ false)
