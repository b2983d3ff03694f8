-- Demand 3: integrals, outputs, compares and on_times; of every accepted step, of every accepted row of a run, and over any history.
use Rattle.std.specs.Prelude.{◌≡◌, true, false, List, ℕ, ◌+◌, ◌*◌, ◌≤◌, ℤ, pos, neg_ℤ, nat_abs, ◌*ℤ◌, get_or, ◌≤ℤ◌, ◌<ℤ◌}
use Rattle.fixed.specs.Fixed.{Between, inside}
use Rattle.sine.specs.Sine.{sine_at, cosine_at}
use Rattle.frames.specs.Frames.{inverse_park}
use Rattle.shaft.specs.Shaft.{thirtieth}
use Rattle.modulation.specs.Modulation.{AllInPeriod, AsAsked, Shortened}
use Rattle.drive_record.specs.declared.Drive.{Drive}
use Rattle.drive.specs.Calls.{stepped}
use Rattle.rows.specs.Rows.{ran_of}
use Rattle.promises.specs.Histories.{History, row_at}
use Rattle.promises.specs.Words.{issued, d_error, q_error, next, speed_error}

-- ════ of whom it is said
-- every accepted step, of whatever drive
abbrev pub EachStep : (Drive → ℤ → ℤ → ℤ → Type 0) → Type 0
EachStep Holds = (d : Drive) (ia ib count : ℤ) → (stepped d ia ib count).number ≡ pos 0 → Holds d ia ib count

-- every accepted row of a run, on the drive that the rows before it leave
abbrev pub EachRow : (Drive → ℤ → ℤ → ℤ → Type 0) → Type 0
EachRow Holds = (d : Drive) (samples : List ℤ) (i : ℕ) → (row_at d samples i).number ≡ pos 0
    → Holds (ran_of d samples i).drive (get_or samples (3 * i) (pos 0)) (get_or samples (3 * i + 1) (pos 0)) (get_or samples (3 * i + 2) (pos 0))

abbrev pub EachStepAndRow : (Drive → ℤ → ℤ → ℤ → Type 0) → Type 0
EachStepAndRow Holds = EachStep Holds × EachRow Holds

-- ════ the integrals are within the limits of their regulators, over any history
pub record Within (d : Drive) : Type 0 where
  pub speed : inside d.settings.q d.integrals.speed ≡ true
  pub d_axis : inside d.settings.v d.integrals.d ≡ true
  pub q_axis : inside d.settings.v d.integrals.q ≡ true

abbrev pub IntegralsWithin : Type 0
IntegralsWithin = (d : Drive) → History d → Within d

-- ════ an integral ends between its old value and the output issued, ends included; the speed's in a tick, and it stays between two ticks
pub record IntegralsBetween (d : Drive) (ia ib count : ℤ) : Type 0 where
  pub d_axis : Between d.integrals.d (next d ia ib count).integrals.d (issued d ia ib count).d
  pub q_axis : Between d.integrals.q (next d ia ib count).integrals.q (issued d ia ib count).q
  pub speed : thirtieth d.shaft ≡ true → Between d.integrals.speed (next d ia ib count).integrals.speed (next d ia ib count).command.torque
  pub speed_stays : thirtieth d.shaft ≡ false
      → ((next d ia ib count).integrals.speed ≡ d.integrals.speed) × ((next d ia ib count).command.torque ≡ d.command.torque)

-- ════ an output leaves a limit when the error turns: a negative error, and it is below the upper limit; one worth a count, and it is above the lower
pub record OutputsLeave (d : Drive) (ia ib count : ℤ) : Type 0 where
  pub d_top : d_error d ia ib count <ℤ pos 0 → (issued d ia ib count).d <ℤ d.settings.v
  pub d_bottom : pos 4096 ≤ℤ (d_error d ia ib count *ℤ d.settings.ckp) → neg_ℤ d.settings.v <ℤ (issued d ia ib count).d
  pub q_top : q_error d ia ib count <ℤ pos 0 → (issued d ia ib count).q <ℤ d.settings.v
  pub q_bottom : pos 4096 ≤ℤ (q_error d ia ib count *ℤ d.settings.ckp) → neg_ℤ d.settings.v <ℤ (issued d ia ib count).q
  pub speed_top : thirtieth d.shaft ≡ true → speed_error d ia ib count <ℤ pos 0 → (next d ia ib count).command.torque <ℤ d.settings.q
  pub speed_bottom : thirtieth d.shaft ≡ true → pos 4096 ≤ℤ (speed_error d ia ib count *ℤ d.settings.skp)
      → neg_ℤ d.settings.q <ℤ (next d ia ib count).command.torque

-- ════ the voltage issued is brought back to the stator, within ±8192; unclipped, on_times differ by less than 2 counts from what it asks
pub record PulsesAsAsked (d : Drive) (ia ib count : ℤ) : Type 0 where
  pub voltage : (stepped d ia ib count).voltage ≡ inverse_park (issued d ia ib count) (sine_at d.field.angle) (cosine_at d.field.angle)
  pub alpha_size : nat_abs (stepped d ia ib count).voltage.alpha ≤ 8192
  pub beta_size : nat_abs (stepped d ia ib count).voltage.beta ≤ 8192
  pub in-period : AllInPeriod d.settings.t (stepped d ia ib count).pulses
  pub near : (stepped d ia ib count).pulses.clipped ≡ false
      → let s = stepped d ia ib count in AsAsked d.settings.t s.voltage.alpha s.voltage.beta s.pulses

-- ════ clipped, the voltage is shortened and not turned
abbrev pub AngleKept : Drive → ℤ → ℤ → ℤ → Type 0
AngleKept d ia ib count =
    let s = stepped d ia ib count in s.pulses.clipped ≡ true → Shortened d.settings.t s.voltage.alpha s.voltage.beta s.pulses

-- ════ compares within 0..T, over any history, in every step and row, refused ones too
abbrev pub ComparesOfAnyStep : Type 0
ComparesOfAnyStep = (d : Drive) → History d → (ia ib count : ℤ) → AllInPeriod d.settings.t (stepped d ia ib count).pulses

abbrev pub ComparesOfAnyRow : Type 0
ComparesOfAnyRow = (d : Drive) → History d → (samples : List ℤ) (i : ℕ) → AllInPeriod d.settings.t (row_at d samples i).pulses
