-- How far calls bring the ramp: by so many ticks, where the target stays and nothing trips.
-- Assumes nothing.
use mathlib.Core.Path.{◌≡◌, refl, sym, ◌∙◌, ap, subst}
use mathlib.Core.Bool.{Bool, true, false, cond, true≢false}
use mathlib.Core.List.{List, [], ◌∷◌}
use Prim.Native.Nat.{ℕ, zero, suc, ◌+◌}
use native.Mathlib.Omega.{arith}
use lib.IntN.{ℤ, pos}
use lib.ListN.{length}
use Rattle.fixed.proofs.Equal.{ap₃}
use Rattle.shaft.specs.Shaft.{counted, thirtieth, measured, ramped_to, ramped}
use Rattle.drive_record.specs.declared.Drive.{Drive}
use Rattle.fixed.specs.Fixed.{inside}
use Rattle.drive_record.specs.Record.{broken, target_end}
use Rattle.drive_record.proofs.Ranges.{Sound, not_broken}
use Rattle.stages.specs.Step.{ramped_by, with_torque, with_shaft, with_command, commanded, rules_1_and_2, with_field, outcome, rules_6_to_9, rules_3_to_9}
use Rattle.stages.specs.Step.{advanced}
use Rattle.drive.specs.Calls.{with_trip, refused, stepped, retargeted, with_target, targeted}
use Rattle.rows.specs.Rows.{row_stepped, is_accepted, one, no_rows, after_row, ran_of, rows_in, rows_fit, run_of}
use Rattle.rows.proofs.Runs.{rows_sound}
use Rattle.promises.specs.Histories.{Call, stepping, aiming, clearing, running, after_call, after_calls, row_at, count_of, is_tick, Quiet, ticks_in, ticks_of}
use Rattle.promises.proofs.Demand1.{passed, by_outcome, target_table_lem, clear_table_lem, run_table_lem}
use Rattle.promises.proofs.Keeping.{after_sound}

-- ════ from drive d to drive e, by so many ticks
pub record Onward (d e : Drive) (ticks : ℕ) : Type 0 where
  pub reference : e.command.reference ≡ ramped ticks d.command.reference d.command.target d.settings.r
  pub target : e.command.target ≡ d.command.target
  pub settings : e.settings ≡ d.settings

stays : (d : Drive) → Onward d d 0
unfolding ramped
stays d = record { reference = refl; target = refl; settings = refl }

-- k moves after j moves
ramped_on : (j k : ℕ) (reference target r : ℤ) → ramped k (ramped j reference target r) target r ≡ ramped (j + k) reference target r
unfolding ramped
ramped_on j zero reference target r = let e : j ≡ j + 0 = omega arith in ap (λ (n : ℕ). ramped n reference target r) e
ramped_on j (suc k) reference target r =
    let e : suc (j + k) ≡ j + suc k = omega arith in
    ap (λ (n : ℤ). ramped_to n target r) (ramped_on j k reference target r) ∙ ap (λ (n : ℕ). ramped n reference target r) e

goes_on : {d e f : Drive} {i j : ℕ} → Onward d e i → Onward e f j → Onward d f (i + j)
goes_on {d} {i = i} {j = j} p q = record {
  reference = q.reference ∙ ap₃ (ramped j) p.reference p.target (ap (λ t. t.r) p.settings)
      ∙ ramped_on i j d.command.reference d.command.target d.settings.r;
  target = q.target ∙ p.target;
  settings = q.settings ∙ p.settings;
}

-- ════ one step
module _ (d : Drive) (ia ib count : ℤ) where
  abbrev ticked : Drive
  ticked = commanded d (measured (counted d.shaft count) d.settings.kn)

  abbrev plain : Drive
  plain = with_shaft d (counted d.shaft count)

  module _ (h : Sound d) where
    -- rules 1 and 2 move the reference; the rules after them leave it
    turned_onward : Onward d (rules_1_and_2 d count) (one (thirtieth d.shaft))
    unfolding rules_1_and_2 commanded with_command with_torque ramped_by with_shaft ramped
    turned_onward = by (thirtieth d.shaft)
      where
        by : (b : Bool) → Onward d (cond b ticked plain) (one b)
        by true = record { reference = refl; target = refl; settings = refl }
        by false = record { reference = refl; target = refl; settings = refl }

    turned_on : Onward d (rules_1_and_2 d count) (one (thirtieth d.shaft)) → Onward d (advanced d ia ib count).drive (one (thirtieth d.shaft))
    unfolding advanced rules_3_to_9 rules_6_to_9 outcome with_field
    turned_on p = record { reference = p.reference; target = p.target; settings = p.settings }

    -- a step after which the drive is not tripped was taken
    step_onward : d.tripped ≡ false → (stepped d ia ib count).drive.tripped ≡ false
        → Onward d (stepped d ia ib count).drive (one (is_tick d (stepped d ia ib count)))
    unfolding refused with_trip advanced rules_3_to_9 rules_6_to_9 outcome is_accepted
    step_onward t =
        by_outcome d ia ib count (λ s. s.drive.tripped ≡ false → Onward d s.drive (one (is_tick d s)))
        (λ b u. absurd (true≢false (sym b ∙ (not_broken d).1 h)))
        (λ n o e u. absurd (true≢false (sym e ∙ t))) (λ n o u. absurd (true≢false u)) (λ ok u. turned_on turned_onward)

-- a tripped drive stays tripped through a step
stays_tripped : (d : Drive) (ia ib count : ℤ) → Sound d → (stepped d ia ib count).drive.tripped ≡ false → d.tripped ≡ false
unfolding refused with_trip
stays_tripped d ia ib count h =
    by_outcome d ia ib count (λ s. s.drive.tripped ≡ false → d.tripped ≡ false)
    (λ b u. u) (λ n o e u. u) (λ n o u. absurd (true≢false u)) (λ ok u. (passed d ia ib count ok).1.0)

-- ════ the rows of a run
module _ (d : Drive) (samples : List ℤ) (h : Sound d) where
  rows_onward : (n : ℕ) → d.tripped ≡ false → (ran_of d samples n).drive.tripped ≡ false
      → Onward d (ran_of d samples n).drive (count_of (λ i. is_tick (ran_of d samples i).drive (row_at d samples i)) n)
  unfolding ran_of no_rows after_row row_at row_stepped count_of
  rows_onward zero t u = stays d
  rows_onward (suc n) t u =
      let k = rows_sound d samples n h in
      let v = stays_tripped (ran_of d samples n).drive _ _ _ k u in
      goes_on (rows_onward n t v) (step_onward (ran_of d samples n).drive _ _ _ k v u)

-- ════ any calls
module _ (d : Drive) (h : Sound d) (t : d.tripped ≡ false) where
  intact : broken d ≡ false
  intact = (not_broken d).1 h

  target_onward : (wanted : ℤ) → (targeted d wanted).drive.command.target ≡ d.command.target → Onward d (targeted d wanted).drive 0
  unfolding with_target retargeted ramped
  target_onward wanted a = by (inside (pos target_end) wanted) refl
    where
      by : (b : Bool) → inside (pos target_end) wanted ≡ b → Onward d (targeted d wanted).drive 0
      by false e = subst (λ s. Onward d s.drive 0) (sym ((target_table_lem d wanted).then 2 (intact, (t, e)))) (stays d)
      by true e =
          let f = (target_table_lem d wanted).then 3 (intact, (t, (e, tt))) in
          let k : Onward d (with_target d wanted) 0 = record { reference = refl; target = sym (ap (λ s. s.drive.command.target) f) ∙ a; settings = refl } in
          subst (λ s. Onward d s.drive 0) (sym f) k

  run_onward : (samples out : List ℤ) → (run_of d samples out).drive.tripped ≡ false → Onward d (run_of d samples out).drive (ticks_in d (running samples out))
  unfolding ticks_in no_rows
  run_onward samples out u = by (rows_fit (length samples) (length out)) refl
    where
      ticks : ℕ
      ticks = count_of (λ i. is_tick (ran_of d samples i).drive (row_at d samples i)) (rows_in samples)

      by : (b : Bool) → rows_fit (length samples) (length out) ≡ b → Onward d (run_of d samples out).drive (cond b ticks 0)
      by false e = subst (λ r. Onward d r.0.drive 0) (sym ((run_table_lem d samples out).then 1 (intact, e))) (stays d)
      by true e =
          let f = (run_table_lem d samples out).then 2 (intact, (e, tt)) in
          subst (λ r. Onward d r.0.drive ticks) (sym f) (rows_onward d samples h (rows_in samples) t (sym (ap (λ r. r.0.drive.tripped) f) ∙ u))

  call_onward : (c : Call) → (after_call d c).command.target ≡ d.command.target → (after_call d c).tripped ≡ false → Onward d (after_call d c) (ticks_in d c)
  unfolding after_call ticks_in
  call_onward (stepping ia ib count) a u = step_onward d ia ib count h t u
  call_onward (aiming wanted) a u = target_onward wanted a
  call_onward clearing a u = subst (λ s. Onward d s.drive 0) (sym ((clear_table_lem d).then 1 (intact, t))) (stays d)
  call_onward (running samples out) a u = run_onward samples out u

pub calls_onward : (d : Drive) (cs : List Call) → Sound d → d.tripped ≡ false → Quiet d cs → Onward d (after_calls d cs) (ticks_of d cs)
unfolding after_calls Quiet ticks_of
calls_onward d [] h t q = stays d
calls_onward d (c ∷ cs) h t q = goes_on (call_onward d h t c q.0 q.1) (calls_onward (after_call d c) cs (after_sound d c h) q.1 q.2)
