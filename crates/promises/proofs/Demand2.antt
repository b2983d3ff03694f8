-- Demand 2: read off the tables, and by induction over rows and over calls.
-- Assumes nothing.
use mathlib.Core.Path.{◌≡◌, refl, sym, ◌∙◌, ap}
use mathlib.Core.List.{List, []}
use Prim.Native.Nat.{ℕ, zero, suc, ◌+◌, ◌%◌}
use native.Mathlib.Omega.{arith}
use borrow.Author.Tests.{le-leb}
use lib.IntN.{ℤ}
use lib.ListN.{length}
use Rattle.drive_record.specs.declared.Drive.{Drive}
use Rattle.drive_record.proofs.Ranges.{not_broken}
use Rattle.sine.specs.Sine.{index_of, entries_from, kept_table}
use Rattle.sine.proofs.Rule.{index_below, entry_at, folded_is, place_within, kept_size, kept_natural, sine_entry_lem, cosine_entry}
use Rattle.drive.specs.Calls.{step_table, fresh}
use Rattle.rows.specs.Rows.{is_accepted, is_clipped, one, no_rows, after_row, ran_of, written_of, rows_in, rows_fit}
use Rattle.promises.specs.Histories.{after_calls, row_at, count_of}
use Rattle.promises.specs.Demand2.{StepByTheRules, SineByTheLadder, AllFromTheKept, SineByTheFolds, RunByRows, RunAccepted}
use Rattle.promises.specs.Demand2.{RunOfNone, StaysUnbroken, NeverBroken, SettingsStay, SettingsAsAccepted}
use Rattle.promises.proofs.Demand1.{step_table_lem, passed, run_table_lem}
use Rattle.promises.proofs.Keeping.{all_sound, reached_sound, calls_settings}

-- ════ an accepted step
pub step_by_the_rules : StepByTheRules
step_by_the_rules d ia ib count e = (step_table_lem d ia ib count).then (length (step_table d ia ib count)) (passed d ia ib count e)

-- ════ an accepted run
pub sine_by_the_ladder : SineByTheLadder
sine_by_the_ladder angle h = record { sine = sine_entry_lem angle h; cosine = cosine_entry angle h }

pub all_from_the_kept : AllFromTheKept
unfolding kept_table entries_from
all_from_the_kept = record {
  count = refl;
  not_negative = kept_natural;
  size = kept_size;
  place = λ k. place_within (k % 256) (omega arith);
  entry = λ k. folded_is (k % 256) (omega arith) ∙ sym (entry_at (k % 256) (omega arith));
}

pub sine_by_the_folds : SineByTheFolds
sine_by_the_folds angle h = record {
  sine = sine_entry_lem angle h ∙ sym (folded_is (index_of angle) (index_below angle h));
  cosine = cosine_entry angle h ∙ sym (folded_is ((index_of angle + 64) % 256) (omega arith));
}

pub run_by_rows : RunByRows
unfolding ran_of no_rows after_row row_at written_of
run_by_rows d samples = record { starts = refl; goes_on = λ i. refl; writes_none = refl; writes = λ i. refl }

accepted_count : (d : Drive) (samples : List ℤ) (n : ℕ) → (ran_of d samples n).accepted ≡ count_of (λ i. is_accepted (row_at d samples i)) n
unfolding ran_of no_rows after_row row_at count_of
accepted_count d samples zero = refl
accepted_count d samples (suc n) = ap (λ (k : ℕ). k + one (is_accepted (row_at d samples n))) (accepted_count d samples n)

clipped_count : (d : Drive) (samples : List ℤ) (n : ℕ) → (ran_of d samples n).clipped ≡ count_of (λ i. is_clipped (row_at d samples i)) n
unfolding ran_of no_rows after_row row_at count_of
clipped_count d samples zero = refl
clipped_count d samples (suc n) = ap (λ (k : ℕ). k + one (is_clipped (row_at d samples n))) (clipped_count d samples n)

pub run_accepted : RunAccepted
run_accepted d samples out b f =
    let r = (run_table_lem d samples out).then 2 (b, (f, tt)) in
    record {
      drive = ap (λ r. r.0.drive) r;
      output = ap (λ r. r.1) r;
      accepted = ap (λ r. r.0.accepted) r ∙ accepted_count d samples (rows_in samples);
      clipped = ap (λ r. r.0.clipped) r ∙ clipped_count d samples (rows_in samples);
    }

pub run_of_none : RunOfNone
unfolding ran_of written_of rows_fit
run_of_none d out b = let r = (run_table_lem d [] out).then 2 (b, (le-leb 0 (length out) (omega arith), tt)) in (ap (λ r. r.0) r, ap (λ r. r.1) r)

-- ════ any history
pub stays_unbroken : StaysUnbroken
stays_unbroken d cs b = (not_broken (after_calls d cs)).1 (all_sound d cs ((not_broken d).0 b))

pub never_broken : NeverBroken
never_broken d r = (not_broken d).1 (reached_sound d r)

pub settings_stay : SettingsStay
settings_stay d cs = calls_settings d cs

pub settings_as_accepted : SettingsAsAccepted
unfolding fresh
settings_as_accepted d r = ap (λ e. e.settings) (sym r.leads) ∙ calls_settings (fresh r.settings) r.calls
