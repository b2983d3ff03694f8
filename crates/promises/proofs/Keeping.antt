-- What every call keeps: a sound record stays sound, and the settings stay as they are.
-- Assumes nothing.
use mathlib.Core.Path.{◌≡◌, refl, ◌∙◌, subst}
use mathlib.Core.Bool.{Bool, true, false, cond}
use mathlib.Core.List.{List, [], ◌∷◌}
use Prim.Native.Nat.{ℕ, zero, suc}
use lib.IntN.{ℤ}
use Rattle.fixed.proofs.LadderLaws.{holds}
use Rattle.shaft.specs.Shaft.{counted, thirtieth, measured}
use Rattle.drive_record.specs.declared.Drive.{Drive}
use Rattle.drive_record.proofs.Ranges.{Sound}
use Rattle.stages.specs.Step.{with_shaft, with_command, commanded, rules_1_and_2, with_field, outcome, rules_6_to_9, rules_3_to_9, advanced}
use Rattle.drive.specs.Calls.{fresh, with_trip, refused, stepped, with_target}
use Rattle.drive.proofs.Kept.{fresh_sound, stepped_sound_lem, targeted_sound, cleared_sound}
use Rattle.rows.specs.Rows.{row_stepped, no_rows, after_row, ran_of, rows_in, run_of}
use Rattle.rows.proofs.Runs.{rows_sound}
use Rattle.promises.specs.Histories.{Call, stepping, aiming, clearing, running, after_call, after_calls, History}
use Rattle.promises.proofs.Demand1.{by_outcome, target_climbs, clear_climbs, run_climbs}

-- ════ sound
run_sound : (d : Drive) (samples out : List ℤ) → Sound d → Sound (run_of d samples out).drive
unfolding no_rows
run_sound d samples out h = holds (run_climbs d samples out) (λ r. Sound r.0.drive) (λ b. h, λ b. (λ f. h, λ f. rows_sound d samples (rows_in samples) h))

pub after_sound : (d : Drive) (c : Call) → Sound d → Sound (after_call d c)
unfolding after_call
after_sound d (stepping ia ib count) h = stepped_sound_lem d ia ib count h
after_sound d (aiming wanted) h = targeted_sound d wanted h
after_sound d clearing h = cleared_sound d h
after_sound d (running samples out) h = run_sound d samples out h

pub all_sound : (d : Drive) (cs : List Call) → Sound d → Sound (after_calls d cs)
unfolding after_calls
all_sound d [] h = h
all_sound d (c ∷ cs) h = all_sound (after_call d c) cs (after_sound d c h)

pub reached_sound : (d : Drive) → History d → Sound d
reached_sound d r = subst Sound r.leads (all_sound (fresh r.settings) r.calls (fresh_sound r.settings r.are_accepted))

-- ════ settings
-- what a tick and a step between two ticks both keep, rules 1 and 2 keep
pub turned_keeps : {A : Type 0} (f : Drive → A) (d : Drive) (count : ℤ)
    → f (commanded d (measured (counted d.shaft count) d.settings.kn)) ≡ f d
    → f (with_shaft d (counted d.shaft count)) ≡ f d → f (rules_1_and_2 d count) ≡ f d
unfolding rules_1_and_2
turned_keeps f d count p q = by (thirtieth d.shaft)
  where
    by : (b : Bool) → f (cond b (commanded d (measured (counted d.shaft count) d.settings.kn)) (with_shaft d (counted d.shaft count))) ≡ f d
    by true = p
    by false = q

pub turned_settings : (d : Drive) (count : ℤ) → (rules_1_and_2 d count).settings ≡ d.settings
unfolding commanded with_command with_shaft
turned_settings d count = turned_keeps (λ d. d.settings) d count refl refl

step_settings : (d : Drive) (ia ib count : ℤ) → (stepped d ia ib count).drive.settings ≡ d.settings
unfolding refused with_trip advanced rules_3_to_9 rules_6_to_9 outcome with_field
step_settings d ia ib count =
    by_outcome d ia ib count (λ s. s.drive.settings ≡ d.settings) (λ b. refl) (λ n o t. refl) (λ n o. refl) (λ ok. turned_settings d count)

pub rows_settings : (d : Drive) (samples : List ℤ) (n : ℕ) → (ran_of d samples n).drive.settings ≡ d.settings
unfolding ran_of no_rows after_row row_stepped
rows_settings d samples zero = refl
rows_settings d samples (suc n) = step_settings (ran_of d samples n).drive _ _ _ ∙ rows_settings d samples n

call_settings : (d : Drive) (c : Call) → (after_call d c).settings ≡ d.settings
unfolding after_call with_target fresh no_rows
call_settings d (stepping ia ib count) = step_settings d ia ib count
call_settings d (aiming wanted) =
    holds (target_climbs d wanted) (λ a. a.drive.settings ≡ d.settings) (λ b. refl, λ b. (λ t. refl, λ t. (λ w. refl, λ w. refl)))
call_settings d clearing = holds (clear_climbs d) (λ a. a.drive.settings ≡ d.settings) (λ b. refl, λ b. (λ t. refl, λ t. refl))
call_settings d (running samples out) =
    holds (run_climbs d samples out) (λ r. r.0.drive.settings ≡ d.settings) (λ b. refl, λ b. (λ f. refl, λ f. rows_settings d samples (rows_in samples)))

pub calls_settings : (d : Drive) (cs : List Call) → (after_calls d cs).settings ≡ d.settings
unfolding after_calls
calls_settings d [] = refl
calls_settings d (c ∷ cs) = calls_settings (after_call d c) cs ∙ call_settings d c
