-- Demand 1, the table of numbers: each call asks its table's tests in their order. What the ladder's laws need of a table is that its numbers
-- differ, which is computed, and that each answer has its row's number.
-- Assumes nothing.
use mathlib.Core.Path.{◌≡◌, refl, ap, sym, ◌∙◌}
use mathlib.Core.Bool.{Bool, true, false, not, cond, false≢true}
use mathlib.Core.List.{List}
use Prim.Native.Nat.{ℕ, zero, suc}
use lib.Dec.{leb}
use lib.IntN.{ℤ, pos}
use lib.ListN.{length}
use Rattle.std.specs.Prelude.{Result, Ok, Err}
use Rattle.fixed.specs.Fixed.{within}
use Rattle.fixed.specs.Ladder.{answer_of, Reached}
use Rattle.fixed.proofs.Choice.{by_test}
use Rattle.fixed.proofs.HeldLaws.{equal_is}
use Rattle.fixed.proofs.LadderLaws.{Climbs, exactly, every, holds, all_pass_lem}
use Rattle.settings.specs.declared.Settings.{Settings}
use Rattle.settings.specs.Settings.{refusals, refusal, accepted, checked, checked_number, period_ok, gains_ok, gains_tied, limits_ok, rest_ok}
use Rattle.settings.proofs.Ranges.{checked_is, refusal_number}
use Rattle.drive_record.specs.declared.Drive.{Drive}
use Rattle.drive_record.specs.Record.{broken}
use Rattle.stages.specs.declared.Stepped.{Stepped}
use Rattle.stages.specs.Step.{rules_3_to_9, rules_6_to_9, outcome, advanced}
use Rattle.drive.specs.Calls.{fresh, make_table, made, made_number, with_trip, refused, step_table}
use Rattle.drive.specs.Calls.{stepped, answered, with_target, target_table, targeted, clear_table, cleared}
use Rattle.drive.proofs.CallLaws.{made_is}
use Rattle.sheet.specs.declared.Unread.{Unread}
use Rattle.sheet.specs.declared.Unread.TheVariants.{Refused, Faulty}
use Rattle.sheet.specs.Sheet.{sheet_text, read_sheet, wrote}
use Rattle.sheet.specs.Calls.{reading_of, writing_of}
use Rattle.sheet.proofs.SheetLaws.{sheet_refused}
use Rattle.rows.specs.declared.Ran.{Ran}
use Rattle.rows.specs.Rows.{is_accepted, no_rows, after_row, ran_of, rows_in, rows_fit, run_table, run_of, output_after}
use Rattle.promises.specs.Demand1.{CheckTable, MakeTable, DriveOrNumber, ZeroIfAccepted, StepTable, TargetTable}
use Rattle.promises.specs.Demand1.{ClearTable, Run, unrun, all_run, RunTable, spare, KeptFree}

-- ════ a run's two answers are one
ran_is : (d : Drive) (samples out : List ℤ)
    → ◌≡◌ {A = Run} (run_of d samples out, output_after d samples out) (answer_of (run_table d samples out (unrun d out)) (all_run d samples out))
unfolding run_of output_after
ran_is d samples out =
    by (broken d) (rows_fit (length samples) (length out)) (no_rows d (pos 14)) (no_rows d (pos 9)) (all_run d samples out).0 out (all_run d samples out).1
  where
    by : (b f : Bool) (x y z : Ran) (o w : List ℤ) → ◌≡◌ {A = Run} (cond b x (cond f z y), cond b o (cond f w o)) (cond b (x, o) (cond f (z, w) (y, o)))
    by true f x y z o w = refl
    by false true x y z o w = refl
    by false false x y z o w = refl

-- the run's own number is 0, whatever its rows' numbers are
own : (d : Drive) (samples : List ℤ) (n : ℕ) → (ran_of d samples n).number ≡ pos 0
unfolding ran_of no_rows after_row
own d samples zero = refl
own d samples (suc n) = own d samples n

-- ════ each call is its table, with the numbers of its rows, a `refl` for each
check_climbs : (s : Settings) → Climbs checked_number (refusals s) (Ok s) (checked s)
unfolding checked
check_climbs s = record { is = refl; numbered = (refl, (refl, (refl, (refl, (refl, refl))))); apart = refl }

make_climbs : (s : Settings) → Climbs made_number (make_table s) (Ok (fresh s)) (made s)
unfolding made
make_climbs s = record { is = refl; numbered = (refl, (refl, (refl, (refl, (refl, refl))))); apart = refl }

pub step_climbs : (d : Drive) (ia ib count : ℤ) → Climbs (λ a. a.number) (step_table d ia ib count) (advanced d ia ib count) (stepped d ia ib count)
unfolding stepped refused advanced rules_3_to_9 rules_6_to_9 outcome
step_climbs d ia ib count = record { is = refl; numbered = (refl, (refl, (refl, refl))); apart = refl }

pub target_climbs : (d : Drive) (wanted : ℤ) → Climbs (λ a. a.number) (target_table d wanted) (answered (with_target d wanted) (pos 0)) (targeted d wanted)
unfolding targeted
target_climbs d wanted = record { is = refl; numbered = (refl, (refl, (refl, refl))); apart = refl }

pub clear_climbs : (d : Drive) → Climbs (λ a. a.number) (clear_table d) (answered (fresh d.settings) (pos 0)) (cleared d)
unfolding cleared
clear_climbs d = record { is = refl; numbered = (refl, (refl, refl)); apart = refl }

pub run_climbs : (d : Drive) (samples out : List ℤ)
    → Climbs (λ (r : Run). r.0.number) (run_table d samples out (unrun d out)) (all_run d samples out) (run_of d samples out, output_after d samples out)
unfolding no_rows
run_climbs d samples out = record { is = ran_is d samples out; numbered = (refl, (refl, own d samples (rows_in samples))); apart = refl }

-- ════ the tables
pub check_table : CheckTable
check_table s = exactly (check_climbs s)

pub make_table_lem : MakeTable
make_table_lem s = exactly (make_climbs s)

pub step_table_lem : StepTable
step_table_lem d ia ib count = exactly (step_climbs d ia ib count)

pub target_table_lem : TargetTable
target_table_lem d wanted = exactly (target_climbs d wanted)

pub clear_table_lem : ClearTable
clear_table_lem d = exactly (clear_climbs d)

pub run_table_lem : RunTable
run_table_lem d samples out = exactly (run_climbs d samples out)

pub drive_or_number : DriveOrNumber
drive_or_number s = record {
  drive = λ e. rw (made_is s, e) refl;
  number = λ e. rw (made_is s, e) refl;
  number_is = λ e. rw (made_is s, e) (refusal_number s e);
  values = λ e. rw (checked_is s, e) refl;
  no_values = λ e. rw (checked_is s, e) refl;
}

pub zero_if_accepted : ZeroIfAccepted
unfolding accepted is_accepted
zero_if_accepted = record {
  settings = λ s. let p = all_pass_lem (refusals s) in let g = (make_table_lem s).given 5 in (λ a. g.1 (p.0 a), λ n. p.1 (g.0 n));
  step = λ s. equal_is (pos 0) s.number;
}

-- ════ a step by its outcome, whatever its rungs: the record is broken; the state is the same, of a tripped drive; it is marked tripped; or the step is
-- taken. What is proved of a step goes by these four, so that a new row of its table is met here alone
module _ (d : Drive) (ia ib count : ℤ) where
  pub passed : (stepped d ia ib count).number ≡ pos 0 → Reached (step_table d ia ib count) (length (step_table d ia ib count))
  passed ok = ((step_table_lem d ia ib count).given (length (step_table d ia ib count))).0 ok

  pub by_outcome : (Q : Stepped → Type 0) → (broken d ≡ true → Q (refused d (pos 0) (pos 14)))
      → ((n : ℤ) → within (pos 0) (pos 0) n ≡ false → d.tripped ≡ true → Q (refused d d.settings.t n))
      → ((n : ℤ) → within (pos 0) (pos 0) n ≡ false → Q (refused (with_trip d) d.settings.t n))
      → ((stepped d ia ib count).number ≡ pos 0 → Q (advanced d ia ib count)) → Q (stepped d ia ib count)
  by_outcome Q spoilt same marked by-rules =
      let no-rung = ((step_table_lem d ia ib count).given (length (step_table d ia ib count))).1 in
      holds (step_climbs d ia ib count) Q
      (λ b. spoilt b, λ b. (λ t. same (pos 7) refl t, λ t. (λ s. marked (pos 6) refl, λ s. by-rules (no-rung (b, (t, (s, tt)))))))

-- ════ 11 to 13 are kept free
-- of the settings' numbers, and so of a sheet's
refusal_free : (s : Settings) → spare (refusal s) ≡ false
unfolding refusal
refusal_free s = by (period_ok s) (gains_ok s) (gains_tied s) (limits_ok s) (rest_ok s)
  where
    by : (a b c d e : Bool) → spare (pos (cond a (cond b (cond c (cond d (cond e 0 5) 4) 3) 2) 1)) ≡ false
    by false b c d e = refl
    by true false c d e = refl
    by true true false d e = refl
    by true true true false e = refl
    by true true true true false = refl
    by true true true true true = refl

read_free : (text : List ℕ) → spare (reading_of (read_sheet text)).number ≡ false
unfolding reading_of
read_free text = by (read_sheet text) refl
  where
    by : (o : Result Settings Unread) → read_sheet text ≡ o → spare (reading_of o).number ≡ false
    by (Ok s) e = refl
    by (Err (Refused r)) e = let h = (sheet_refused text r).0 e in ap spare (sym h.3) ∙ refusal_free h.0
    by (Err (Faulty i)) e = refl

write_free : (s : Settings) (room : ℕ) → spare (writing_of (wrote s room)).number ≡ false
unfolding writing_of wrote
write_free s room =
    by_test (accepted s)
    (λ a. rw a (by_test (leb (length (sheet_text s)) room) (λ t. rw t refl) (λ t. rw t refl)))
    (λ a. rw a (ap spare (refusal_number s a) ∙ refusal_free s))

pub kept_free : KeptFree
kept_free = record {
  make_free = λ s. free _ (every (make_climbs s) unspared refl);
  step_free = λ d ia ib count. free _ (every (step_climbs d ia ib count) unspared refl);
  target_free = λ d wanted. free _ (every (target_climbs d wanted) unspared refl);
  clear_free = λ d. free _ (every (clear_climbs d) unspared refl);
  run_free = λ d samples out. free _ (every (run_climbs d samples out) unspared refl);
  read_free = read_free;
  write_free = write_free;
}
  where
    unspared : ℤ → Bool
    unspared n = not (spare n)

    free : (b : Bool) → not b ≡ true → b ≡ false
    free true h = absurd (false≢true h)
    free false h = refl
