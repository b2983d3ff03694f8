-- The window through any calls: the steps in it and thirty for each tick are those it had and the accepted steps, and an accepted clear empties it.
-- So every thirtieth accepted step is a tick.
-- Assumes nothing.
use mathlib.Core.Path.{◌≡◌, refl, sym, ◌∙◌, ap, subst}
use mathlib.Core.Bool.{Bool, true, false, cond, true≢false, false≢true}
use mathlib.Core.List.{List, [], ◌∷◌}
use mathlib.Core.Logic.{◌↔◌}
use Prim.Native.Nat.{ℕ, zero, suc, ◌+◌, ◌*◌, ◌%◌, ◌≤◌}
use native.Mathlib.Omega.{arith}
use lib.IntN.{ℤ, pos, negsuc, nat_abs}
use lib.Signed.{◌≤ℤ◌}
use lib.ListN.{length}
use Rattle.fixed.specs.Fixed.{within}
use Rattle.fixed.proofs.HeldLaws.{within_lo, within_size}
use Rattle.fixed.proofs.LadderLaws.{holds}
use Rattle.shaft.specs.Shaft.{counted, thirtieth, measured}
use Rattle.shaft.proofs.Window as window
use Rattle.drive_record.specs.declared.Drive.{Drive}
use Rattle.drive_record.specs.Record.{broken}
use Rattle.drive_record.proofs.Ranges.{Sound, not_broken}
use Rattle.stages.specs.declared.Stepped.{Stepped}
use Rattle.stages.specs.Step.{with_shaft, with_command, commanded, rules_1_and_2, with_field, outcome, rules_6_to_9, rules_3_to_9, advanced}
use Rattle.drive.specs.Calls.{fresh, with_trip, refused, stepped, with_target, cleared}
use Rattle.drive.proofs.Kept.{fresh_sound}
use Rattle.rows.specs.Rows.{row_stepped, is_accepted, one, no_rows, after_row, ran_of, rows_in, rows_fit, run_of}
use Rattle.rows.proofs.Runs.{rows_sound}
use Rattle.promises.specs.Demand1.{Run, all_run}
use Rattle.promises.specs.Histories.{Call, stepping, aiming, clearing, running, after_call, after_calls, row_at, count_of}
use Rattle.promises.specs.Histories.{Quiet, is_tick, ticks_in, ticks_of, steps_in, steps_of, clears, NoClear, since}
use Rattle.promises.specs.Ramp.{EveryThirtieth, ThirtiethsOfAny, TicksCounted, QuietNoClear}
use Rattle.promises.proofs.Demand1.{by_outcome, target_climbs, clear_climbs, clear_table_lem, run_climbs}
use Rattle.promises.proofs.Demand2.{stays_unbroken}
use Rattle.promises.proofs.Keeping.{after_sound, all_sound}

-- ════ from drive d to drive e, by so many ticks and accepted steps
abbrev in_window : Drive → ℕ
in_window d = nat_abs d.shaft.steps

abbrev Window : Drive → Drive → ℕ → ℕ → Type 0
Window d e ticks steps = in_window e + 30 * ticks ≡ in_window d + steps

-- ════ one step
module _ (d : Drive) (ia ib count : ℤ) (h : Sound d) where
  abbrev ticked : Drive
  ticked = commanded d (measured (counted d.shaft count) d.settings.kn)

  abbrev plain : Drive
  plain = with_shaft d (counted d.shaft count)

  turned_window : Window d (rules_1_and_2 d count) (one (thirtieth d.shaft)) 1
  unfolding rules_1_and_2 commanded with_command measured with_shaft
  turned_window = by (thirtieth d.shaft) refl
    where
      k : nat_abs (counted d.shaft count).steps ≡ suc (nat_abs d.shaft.steps)
      k = window.steps_next d.shaft count (within_lo (pos 0) (pos 29) d.shaft.steps h.shaft.steps)

      by : (b : Bool) → thirtieth d.shaft ≡ b → Window d (cond b ticked plain) (one b) 1
      by true t = omega (arith, ap nat_abs ((window.thirtieth_at d.shaft).0 t))
      by false t = omega (arith, k)

  step_window : Window d (stepped d ia ib count).drive (one (is_tick d (stepped d ia ib count))) (one (is_accepted (stepped d ia ib count)))
  unfolding refused with_trip advanced rules_3_to_9 rules_6_to_9 outcome with_field is_accepted
  step_window =
      let still : Window d d 0 0 = omega arith in
      by_outcome d ia ib count (λ s. Window d s.drive (one (is_tick d s)) (one (is_accepted s)))
      (λ b. still) (λ n o t. rw o still) (λ n o. rw o still) (λ ok. turned_window)

-- ════ the rows of a run
row_window : (d : Drive) (samples : List ℤ) (i : ℕ) → Sound d
    → Window d (row_stepped d samples i).drive (one (is_tick d (row_stepped d samples i))) (one (is_accepted (row_stepped d samples i)))
unfolding row_stepped
row_window d samples i h = step_window d _ _ _ h

rows_window : (d : Drive) (samples : List ℤ) (n : ℕ) → Sound d
    → Window d (ran_of d samples n).drive (count_of (λ i. is_tick (ran_of d samples i).drive (row_at d samples i)) n) (ran_of d samples n).accepted
unfolding ran_of no_rows after_row row_at count_of
rows_window d samples zero h = omega arith
rows_window d samples (suc n) h = omega (arith, rows_window d samples n h, row_window (ran_of d samples n).drive samples n (rows_sound d samples n h))

-- ════ any call but an accepted clear
module _ (d : Drive) (h : Sound d) where
  still : Window d d 0 0
  still = omega arith

  intact : {A : Type 0} → broken d ≡ true → A
  intact e = absurd (true≢false (sym e ∙ (not_broken d).1 h))

  run_window : (samples out : List ℤ) → Window d (run_of d samples out).drive (ticks_in d (running samples out)) (run_of d samples out).accepted
  unfolding ticks_in no_rows
  run_window samples out =
      let ticks : ℕ = count_of (λ i. is_tick (ran_of d samples i).drive (row_at d samples i)) (rows_in samples) in
      let Q : Bool → Run → Type 0 = λ f r. Window d r.0.drive (cond f ticks 0) r.0.accepted in
      let fit = rows_fit (length samples) (length out) in
      let rows = rows_window d samples (rows_in samples) h in
      holds (run_climbs d samples out) (Q fit)
      (λ b. intact b, λ b. (λ f. subst (λ f. Q f (no_rows d (pos 9), out)) (sym f) still, λ f. subst (λ f. Q f (all_run d samples out)) (sym f) rows))

  -- a clear that is not accepted leaves the drive
  pub uncleared : clears d clearing ≡ false → (cleared d).drive ≡ d
  unfolding clears
  uncleared =
      holds (clear_climbs d) (λ a. within (pos 0) (pos 0) a.number ≡ false → a.drive ≡ d) (λ b e. refl, λ b. (λ t e. refl, λ t e. absurd (true≢false e)))

  -- one that is accepted makes a fresh drive, whose window is empty
  emptied : clears d clearing ≡ true → in_window (cleared d).drive ≡ 0
  unfolding clears fresh
  emptied =
      holds (clear_climbs d) (λ a. within (pos 0) (pos 0) a.number ≡ true → in_window a.drive ≡ 0)
      (λ b e. absurd (false≢true e), λ b. (λ t e. absurd (false≢true e), λ t e. refl))

  call_window : (c : Call) → clears d c ≡ false → Window d (after_call d c) (ticks_in d c) (steps_in d c)
  unfolding after_call ticks_in steps_in with_target
  call_window (stepping ia ib count) e = step_window d ia ib count h
  call_window (aiming wanted) e = holds (target_climbs d wanted) (λ a. Window d a.drive 0 0) (λ b. still, λ b. (λ t. still, λ t. (λ w. still, λ w. still)))
  call_window clearing e = subst (λ e. Window d e 0 0) (sym (uncleared e)) still
  call_window (running samples out) e = run_window samples out

  cleared_window : (c : Call) → clears d c ≡ true → in_window (after_call d c) ≡ 0
  unfolding clears after_call
  cleared_window (stepping ia ib count) t = absurd (false≢true t)
  cleared_window (aiming wanted) t = absurd (false≢true t)
  cleared_window clearing t = emptied t
  cleared_window (running samples out) t = absurd (false≢true t)

-- ════ any calls
calls_window : (d : Drive) (cs : List Call) → Sound d → NoClear d cs → Window d (after_calls d cs) (ticks_of d cs) (steps_of d cs)
unfolding after_calls NoClear ticks_of steps_of
calls_window d [] h n = omega arith
calls_window d (c ∷ cs) h n = omega (arith, call_window d h c n.0, calls_window (after_call d c) cs (after_sound d c h) n.1)

-- counted anew at each accepted clear
since_window : (d : Drive) (cs : List Call) (ticks steps : ℕ) → Sound d → in_window d + 30 * ticks ≡ steps
    → in_window (after_calls d cs) + 30 * since ticks_in ticks d cs ≡ since steps_in steps d cs
unfolding after_calls since
since_window d [] ticks steps h e = e
since_window d (c ∷ cs) ticks steps h e = by (clears d c) refl (λ m n k. since_window (after_call d c) cs m n (after_sound d c h) k)
  where
    -- what is to be shown of the calls behind c, from m ticks and n steps on
    Behind : ℕ → ℕ → Type 0
    Behind m n = in_window (after_calls (after_call d c) cs) + 30 * since ticks_in m (after_call d c) cs ≡ since steps_in n (after_call d c) cs

    by : (b : Bool) → clears d c ≡ b → ((m n : ℕ) → in_window (after_call d c) + 30 * m ≡ n → Behind m n)
        → Behind (cond b 0 (ticks + ticks_in d c)) (cond b 0 (steps + steps_in d c))
    by true t next = next 0 0 (omega (arith, cleared_window d h c t))
    by false t next = next (ticks + ticks_in d c) (steps + steps_in d c) (omega (arith, e, call_window d h c t))

-- ════ the promises
few : (d : Drive) → Sound d → in_window d ≤ 29
few d h = within_size 0 29 d.shaft.steps h.shaft.steps

pub ticks_counted : TicksCounted
ticks_counted d cs b n =
    let h = (not_broken d).0 b in
    let w = calls_window d cs h n in
    let f = few (after_calls d cs) (all_sound d cs h) in
    omega (arith, w, f)

-- a step of a drive whose window has a remainder of n by thirty
module _ (e : Drive) (s : Stepped) (h : Sound e) (a : is_accepted s ≡ true) (n ticks : ℕ) (w : in_window e + 30 * ticks ≡ n) where
  nine_and_twenty : (x : ℤ) → pos 0 ≤ℤ x → nat_abs x ≡ 29 → x ≡ pos 29
  nine_and_twenty (pos m) l k = ap pos k
  nine_and_twenty (negsuc m) l k = absurd l.le

  tick_at : (is_tick e s ≡ true) ↔ (suc n % 30 ≡ 0)
  tick_at = rw a (
    λ t. omega (arith, w, ap nat_abs ((window.thirtieth_at e.shaft).0 t)),
    λ m. (window.thirtieth_at e.shaft).1
        (nine_and_twenty e.shaft.steps (within_lo (pos 0) (pos 29) e.shaft.steps h.shaft.steps) (omega (arith, w, m, few e h))),
  )

pub thirtieths_of_any : ThirtiethsOfAny
thirtieths_of_any d cs b =
    let e = after_calls d cs in
    let h : Sound e = all_sound d cs ((not_broken d).0 b) in
    let n = since steps_in (in_window d) d cs in
    let ticks = since ticks_in 0 d cs in
    let w : in_window e + 30 * ticks ≡ n = since_window d cs 0 (in_window d) ((not_broken d).0 b) (omega arith) in
    record {
      step = λ ia ib count k. tick_at e (stepped e ia ib count) h k n ticks w;
      row = λ samples i k.
          tick_at (ran_of e samples i).drive (row_at e samples i) (rows_sound e samples i h) k (n + (ran_of e samples i).accepted)
          (ticks + count_of (λ i. is_tick (ran_of e samples i).drive (row_at e samples i)) i) (omega (arith, w, rows_window e samples i h));
      counted = omega (arith, w, few e h);
    }

-- a fresh drive has none in its window
pub every_thirtieth : EveryThirtieth
unfolding fresh
every_thirtieth s cs a = thirtieths_of_any (fresh s) cs ((not_broken (fresh s)).1 (fresh_sound s a))

pub quiet_no_clear : QuietNoClear
unfolding Quiet NoClear clears after_calls
quiet_no_clear d [] b t q = tt
quiet_no_clear d (c ∷ cs) b t q = (by c, quiet_no_clear (after_call d c) cs (stays_unbroken d (c ∷ []) b) q.1 q.2)
  where
    by : (c : Call) → clears d c ≡ false
    by (stepping ia ib count) = refl
    by (aiming wanted) = refl
    by clearing = ap (λ a. within (pos 0) (pos 0) a.number) ((clear_table_lem d).then 1 (b, t))
    by (running samples out) = refl
