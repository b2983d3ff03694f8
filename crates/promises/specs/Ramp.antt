-- The ramp's time and the ticks, through any calls.
use Rattle.std.specs.Prelude.{◌≡◌, true, false, List, ◌↔◌, ℕ, suc, ◌+◌, ◌/◌, ◌%◌, ◌≤◌, ℤ, nat_abs}
use Rattle.shaft.specs.Shaft.{ramped}
use Rattle.settings.specs.declared.Settings.{Settings}
use Rattle.drive_record.specs.declared.Drive.{Drive}
use Rattle.settings.specs.Settings.{accepted}
use Rattle.drive_record.specs.Record.{broken}
use Rattle.drive.specs.Calls.{fresh, stepped}
use Rattle.rows.specs.Rows.{is_accepted, ran_of}
use Rattle.promises.specs.Histories.{Call, after_calls, row_at, Quiet, is_tick, ticks_in, steps_in, ticks_of, steps_of, NoClear, since, ticks_needed}

-- ════ while the target stays and nothing trips, the reference is there once |target − reference|/R ticks have passed, rounded up, and not while fewer have
pub record OnTime (d : Drive) (cs : List Call) : Type 0 where
  pub reference : (after_calls d cs).command.reference ≡ ramped (ticks_of d cs) d.command.reference d.command.target d.settings.r
  pub reached : ((after_calls d cs).command.reference ≡ d.command.target) ↔ (ticks_needed d ≤ ticks_of d cs)

abbrev pub RampOnTime : Type 0
RampOnTime = (d : Drive) (cs : List Call) → broken d ≡ false → d.tripped ≡ false → Quiet d cs → OnTime d cs

-- ════ the 30th, 60th, 90th accepted step since fresh is a tick, a clear making a fresh drive
-- after any calls since accepted settings, with n accepted steps since fresh or since the last accepted clear: the next accepted step, and each row
-- of a run, is a tick exactly when it is a thirtieth; and n/30 of them were
pub record Thirtieths (d : Drive) (n ticks : ℕ) : Type 0 where
  pub step : (ia ib count : ℤ) → is_accepted (stepped d ia ib count) ≡ true → (is_tick d (stepped d ia ib count) ≡ true) ↔ (suc n % 30 ≡ 0)
  pub row : (samples : List ℤ) (i : ℕ) → is_accepted (row_at d samples i) ≡ true
      → (is_tick (ran_of d samples i).drive (row_at d samples i) ≡ true) ↔ (suc (n + (ran_of d samples i).accepted) % 30 ≡ 0)
  pub counted : ticks ≡ n / 30

abbrev pub EveryThirtieth : Type 0
EveryThirtieth = (s : Settings) (cs : List Call) → accepted s ≡ true
    → Thirtieths (after_calls (fresh s) cs) (since steps_in 0 (fresh s) cs) (since ticks_in 0 (fresh s) cs)

-- where a record comes from plays no part: the same from any record that is not broken, its steps in the window counted too
abbrev pub ThirtiethsOfAny : Type 0
ThirtiethsOfAny = (d : Drive) (cs : List Call) → broken d ≡ false
    → Thirtieths (after_calls d cs) (since steps_in (nat_abs d.shaft.steps) d cs) (since ticks_in 0 d cs)

-- so, with m steps in the window, n accepted steps with no clear among them have (m + n)/30 ticks
abbrev pub TicksCounted : Type 0
TicksCounted = (d : Drive) (cs : List Call) → broken d ≡ false → NoClear d cs → ticks_of d cs ≡ (nat_abs d.shaft.steps + steps_of d cs) / 30

-- where nothing trips a drive that is not tripped, no clear is accepted
abbrev pub QuietNoClear : Type 0
QuietNoClear = (d : Drive) (cs : List Call) → broken d ≡ false → d.tripped ≡ false → Quiet d cs → NoClear d cs
