-- What can have happened to a drive: accepted settings, then any calls in any order, accepted or refused.
use Rattle.std.specs.Prelude.{◌≡◌, Bool, true, false, cond, ◌&&◌, List, [], ◌∷◌, ℕ, zero, suc, ◌+◌, ◌-◌, ◌/◌, ℤ, pos, nat_abs, ◌-ℤ◌, length}
use Rattle.fixed.specs.Fixed.{equal}
use Rattle.shaft.specs.Shaft.{thirtieth}
use Rattle.settings.specs.declared.Settings.{Settings}
use Rattle.drive_record.specs.declared.Drive.{Drive}
use Rattle.settings.specs.Settings.{accepted}
use Rattle.drive.specs.Calls.{fresh, stepped, targeted, cleared}
use Rattle.stages.specs.declared.Stepped.{Stepped}
use Rattle.rows.specs.Rows.{row_stepped, is_accepted, one, ran_of, rows_in, rows_fit, run_of}

-- a call with its numbers; a run has samples and the output that is lent to it
pub data Call : Type 0 where
  stepping : ℤ → ℤ → ℤ → Call
  aiming : ℤ → Call
  clearing : Call
  running : List ℤ → List ℤ → Call

-- the drive that a call gives back
unfoldable pub after_call : Drive → Call → Drive
after_call d (stepping ia ib count) = (stepped d ia ib count).drive
after_call d (aiming wanted) = (targeted d wanted).drive
after_call d clearing = (cleared d).drive
after_call d (running samples out) = (run_of d samples out).drive

unfoldable pub after_calls : Drive → List Call → Drive
after_calls d [] = d
after_calls d (c ∷ cs) = after_calls (after_call d c) cs

-- a drive that came from accepted settings by way of calls
pub record History (d : Drive) : Type 0 where
  pub settings : Settings
  pub are_accepted : accepted settings ≡ true
  pub calls : List Call
  pub leads : after_calls (fresh settings) calls ≡ d

-- ════ the rows of a run
-- what the step of row i gives, on the drive that the rows before it leave
unfoldable pub row_at : Drive → List ℤ → ℕ → Stepped
row_at d samples i = row_stepped (ran_of d samples i).drive samples i

-- how many of the first n rows pass a test
unfoldable pub count_of : (ℕ → Bool) → ℕ → ℕ
count_of p zero = 0
count_of p (suc n) = count_of p n + one (p n)

-- ════ the ramp's time
-- the target stays and nothing trips, call after call
unfoldable pub Quiet : Drive → List Call → Type 0
Quiet d [] = Unit
Quiet d (c ∷ cs) = ((after_call d c).command.target ≡ d.command.target) × ((after_call d c).tripped ≡ false) × Quiet (after_call d c) cs

-- a step s of drive d is a tick when it is accepted with 29 steps in the window before it
abbrev pub is_tick : Drive → Stepped → Bool
is_tick d s = is_accepted s && thirtieth d.shaft

-- the ticks among a call's steps
unfoldable pub ticks_in : Drive → Call → ℕ
ticks_in d (stepping ia ib count) = one (is_tick d (stepped d ia ib count))
ticks_in d (aiming wanted) = 0
ticks_in d clearing = 0
ticks_in d (running samples out) =
    cond (rows_fit (length samples) (length out)) (count_of (λ i. is_tick (ran_of d samples i).drive (row_at d samples i)) (rows_in samples)) 0

unfoldable pub ticks_of : Drive → List Call → ℕ
ticks_of d [] = 0
ticks_of d (c ∷ cs) = ticks_in d c + ticks_of (after_call d c) cs

-- a call's accepted steps
unfoldable pub steps_in : Drive → Call → ℕ
steps_in d (stepping ia ib count) = one (is_accepted (stepped d ia ib count))
steps_in d (aiming wanted) = 0
steps_in d clearing = 0
steps_in d (running samples out) = (run_of d samples out).accepted

unfoldable pub steps_of : Drive → List Call → ℕ
steps_of d [] = 0
steps_of d (c ∷ cs) = steps_in d c + steps_of (after_call d c) cs

-- an accepted clear, after which the drive is fresh
unfoldable pub clears : Drive → Call → Bool
clears d (stepping ia ib count) = false
clears d (aiming wanted) = false
clears d clearing = equal (pos 0) (cleared d).number
clears d (running samples out) = false

unfoldable pub NoClear : Drive → List Call → Type 0
NoClear d [] = Unit
NoClear d (c ∷ cs) = (clears d c ≡ false) × NoClear (after_call d c) cs

-- a count over calls that starts at n, and anew at each accepted clear
unfoldable pub since : (Drive → Call → ℕ) → ℕ → Drive → List Call → ℕ
since count n d [] = n
since count n d (c ∷ cs) = since count (cond (clears d c) 0 (n + count d c)) (after_call d c) cs

-- gap/R, rounded up
abbrev pub rounded_up : ℕ → ℕ → ℕ
rounded_up gap r = (gap + r - 1) / r

abbrev pub ticks_needed : Drive → ℕ
ticks_needed d = rounded_up (nat_abs (d.command.target -ℤ d.command.reference)) (nat_abs d.settings.r)
