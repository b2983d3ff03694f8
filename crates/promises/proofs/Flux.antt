-- The flux over calls: what an accepted step does is the flux model's, at the current that it sees; every other call leaves it.
-- Assumes nothing.
use mathlib.Core.Path.{◌≡◌, refl, sym, ◌∙◌, ap, ap₂, subst}
use mathlib.Core.Bool.{false}
use mathlib.Core.List.{List, [], ◌∷◌}
use Prim.Native.Nat.{ℕ, zero, suc, ◌+◌, ◌≤◌, ◌<◌}
use native.Mathlib.Omega.{arith}
use lib.IntN.{ℤ, pos, ◌*ℤ◌}
use Rattle.fixed.specs.Fixed.{Between}
use Rattle.fixed.proofs.LadderLaws.{holds}
use Rattle.fixed.proofs.Ranges.{in-lo, in-hi}
use Rattle.field.specs.Field.{fine_next, followed}
use Rattle.field.specs.Promised.{KrIn, There, held_for}
use Rattle.field.proofs.Arriving.{fine_between, rests_there, stays_there, held_on, arrives}
use Rattle.settings.specs.Ranges as range
use Rattle.drive_record.specs.declared.Drive.{Drive}
use Rattle.drive_record.proofs.Ranges.{Sound, not_broken}
use Rattle.stages.specs.Step.{with_shaft, with_command, commanded, rules_1_and_2, field_after, with_field, outcome, rules_6_to_9, rules_3_to_9, advanced}
use Rattle.drive.specs.Calls.{with_trip, refused, stepped, with_target}
use Rattle.rows.specs.Rows.{row_stepped, is_accepted, one, no_rows, after_row, ran_of, rows_in}
use Rattle.promises.specs.Histories.{Call, stepping, aiming, clearing, running, after_call, after_calls, row_at, steps_in, steps_of, clears, NoClear}
use Rattle.promises.specs.Words.{seen, next}
use Rattle.promises.specs.Demand3.{EachStepAndRow}
use Rattle.promises.specs.Flux.{FluxFollows, RowSees, Sees, HeldAt, FluxArrives}
use Rattle.promises.proofs.Demand1.{passed, by_outcome, target_climbs, run_climbs}
use Rattle.promises.proofs.Demand2.{step_by_the_rules}
use Rattle.promises.proofs.Demand3.{step_and_row}
use Rattle.promises.proofs.Keeping.{after_sound, turned_keeps, turned_settings}
use Rattle.promises.proofs.Window.{uncleared}

-- ════ one step
following : (d : Drive) → Sound d → KrIn d.settings.kr
following d h = record { lo = in-lo range.kr d.settings.kr h.settings.kr; hi = in-hi range.kr d.settings.kr h.settings.kr }

-- rules 1 and 2 leave the field
pub turned_field : (d : Drive) (count : ℤ) → (rules_1_and_2 d count).field ≡ d.field
unfolding commanded with_command with_shaft
turned_field d count = turned_keeps (λ d. d.field) d count refl refl

-- and rule 6 is the flux model's step
fine_advanced : (d : Drive) (ia ib count : ℤ) → (advanced d ia ib count).drive.field.fine ≡ fine_next d.settings.kr d.field.fine (seen d ia ib).d
unfolding advanced rules_3_to_9 rules_6_to_9 outcome with_field field_after followed seen
fine_advanced d ia ib count =
    ap₂ (λ (k f : ℤ). fine_next k f (seen d ia ib).d) (ap (λ s. s.kr) (turned_settings d count)) (ap (λ f. f.fine) (turned_field d count))

step_follows : (d : Drive) (ia ib count : ℤ) → (stepped d ia ib count).number ≡ pos 0 → FluxFollows d ia ib count
unfolding next
step_follows d ia ib count ok =
    let kr = d.settings.kr in
    let fine = d.field.fine in
    let i = (seen d ia ib).d in
    let f = following d ((not_broken d).0 (passed d ia ib count ok).0) in
    let rules = step_by_the_rules d ia ib count ok in
    let e : (next d ia ib count).field.fine ≡ fine_next kr fine i = ap (λ s. s.drive.field.fine) rules ∙ fine_advanced d ia ib count in
    record {
      between = subst (λ (z : ℤ). Between fine z (pos 4096 *ℤ i)) (sym e) (fine_between kr fine i f);
      rests = λ r. rests_there kr fine i f.lo (sym e ∙ r);
      stays = λ t. subst (There i) (sym e) (stays_there kr fine i f t);
    }

pub flux_follows : EachStepAndRow FluxFollows
flux_follows = step_and_row FluxFollows step_follows

-- ════ from drive d to drive e, by so many accepted steps that see the current c
record Held (c : ℤ) (d e : Drive) (steps : ℕ) : Type 0 where
  fine : e.field.fine ≡ held_for steps d.settings.kr d.field.fine c
  settings : e.settings ≡ d.settings

module _ {c : ℤ} where
  left : {d e : Drive} → e.field.fine ≡ d.field.fine → e.settings ≡ d.settings → Held c d e 0
  unfolding held_for
  left f s = record { fine = f; settings = s }

  goes_on : {d e f : Drive} {i j : ℕ} → Held c d e i → Held c e f j → Held c d f (i + j)
  goes_on {d} {i = i} {j} p q = record {
    fine = q.fine ∙ ap₂ (λ (k x : ℤ). held_for j k x c) (ap (λ s. s.kr) p.settings) p.fine
        ∙ held_on i j d.settings.kr d.field.fine c;
    settings = q.settings ∙ p.settings;
  }

-- ════ one step
module _ (c : ℤ) (d : Drive) (ia ib count : ℤ) where
  accepted_held : (seen d ia ib).d ≡ c → Held c d (advanced d ia ib count).drive 1
  unfolding advanced rules_3_to_9 rules_6_to_9 outcome with_field held_for
  accepted_held e = record {
    fine = fine_advanced d ia ib count ∙ ap (fine_next d.settings.kr d.field.fine) e;
    settings = turned_settings d count;
  }

  step_held : ((stepped d ia ib count).number ≡ pos 0 → (seen d ia ib).d ≡ c)
      → Held c d (stepped d ia ib count).drive (one (is_accepted (stepped d ia ib count)))
  unfolding refused with_trip is_accepted advanced rules_3_to_9 rules_6_to_9 outcome
  step_held s =
      by_outcome d ia ib count (λ s. Held c d s.drive (one (is_accepted s)))
      (λ b. left refl refl) (λ n o t. rw o (left refl refl)) (λ n o. rw o (left refl refl)) (λ ok. accepted_held (s ok))

-- ════ the rows of a run
rows_held : (c : ℤ) (d : Drive) (samples : List ℤ) (n : ℕ) → n ≤ rows_in samples → ((i : ℕ) → i < rows_in samples → RowSees c d samples i)
    → Held c d (ran_of d samples n).drive (ran_of d samples n).accepted
unfolding ran_of no_rows after_row row_at row_stepped
rows_held c d samples zero l s = left refl refl
rows_held c d samples (suc n) l s =
    goes_on (rows_held c d samples n (omega (arith, l)) s) (step_held c (ran_of d samples n).drive _ _ _ (s n (omega (arith, l))))

-- ════ any calls but an accepted clear
call_held : (c : ℤ) (d : Drive) (x : Call) → Sound d → clears d x ≡ false → Sees c d x → Held c d (after_call d x) (steps_in d x)
unfolding after_call steps_in with_target no_rows Sees
call_held c d (stepping ia ib count) h n s = step_held c d ia ib count s
call_held c d (aiming wanted) h n s =
    holds (target_climbs d wanted) (λ a. Held c d a.drive 0)
    (λ b. left refl refl, λ b. (λ t. left refl refl, λ t. (λ w. left refl refl, λ w. left refl refl)))
call_held c d clearing h n s = subst (λ e. Held c d e 0) (sym (uncleared d h n)) (left refl refl)
call_held c d (running samples out) h n s =
    holds (run_climbs d samples out) (λ r. Held c d r.0.drive r.0.accepted)
    (λ b. left refl refl, λ b. (λ f. left refl refl, λ f. rows_held c d samples (rows_in samples) (omega arith) (s f)))

calls_held : (c : ℤ) (d : Drive) (cs : List Call) → Sound d → NoClear d cs → HeldAt c d cs → Held c d (after_calls d cs) (steps_of d cs)
unfolding after_calls NoClear HeldAt steps_of
calls_held c d [] h n s = left refl refl
calls_held c d (x ∷ cs) h n s =
    goes_on (call_held c d x h n.0 s.0) (calls_held c (after_call d x) cs (after_sound d x h) n.1 s.1)

pub flux_arrives : FluxArrives
flux_arrives c d cs b n s =
    let h = (not_broken d).0 b in
    let e = (calls_held c d cs h n s).fine in
    record {
      fine = e;
      arrives = λ l. subst (There c) (sym e) (arrives d.settings.kr d.field.fine c (steps_of d cs) (following d h) l);
    }
