-- Demand 2: each accepted step is by the rules; a run is its steps, row by row; and through any list of calls no record is broken.
use Rattle.std.specs.Prelude.{◌≡◌, true, false, List, [], ◌++◌, ℕ, suc, ◌+◌, ◌*◌, ◌%◌, ◌≤◌, ℤ, pos, nat_abs, length, drop, get_or}
use Rattle.sine.specs.Sine.{Angle, index_of, sine_entry, sine_table, sine_at, cosine_at, kept_table, place_of, folded_in}
use Rattle.drive_record.specs.declared.Drive.{Drive}
use Rattle.drive_record.specs.Record.{broken}
use Rattle.stages.specs.Step.{advanced}
use Rattle.drive.specs.Calls.{stepped}
use Rattle.rows.specs.Rows.{four, is_accepted, is_clipped, no_rows, ran_of, written_of, rows_in, rows_fit, run_of, output_after}
use Rattle.promises.specs.Histories.{Call, after_calls, History, row_at, count_of}

-- each accepted step gives precisely the state and the compares of docs/RULES.md, "One accepted step, in order"
abbrev pub StepByTheRules : Type 0
StepByTheRules = (d : Drive) (ia ib count : ℤ) → (stepped d ia ib count).number ≡ pos 0 → stepped d ia ib count ≡ advanced d ia ib count

-- rule 4: the sine of an angle is the ladder's entry at index angle/256 down, its cosine the entry at index + 64, modulo 256
pub record AtItsIndex (angle : ℤ) : Type 0 where
  pub sine : sine_at angle ≡ sine_entry (index_of angle)
  pub cosine : cosine_at angle ≡ sine_entry ((index_of angle + 64) % 256)

abbrev pub SineByTheLadder : Type 0
SineByTheLadder = (angle : ℤ) → Angle angle → AtItsIndex angle

-- entries 0 to 64 are enough: each entry of the table, counted round and round, is read from them by the folds
pub record AllFromTheKept : Type 0 where
  pub count : length kept_table ≡ 65
  pub not_negative : (i : ℕ) → get_or kept_table i (pos 0) ≡ pos (nat_abs (get_or kept_table i (pos 0)))
  pub size : (i : ℕ) → nat_abs (get_or kept_table i (pos 0)) ≤ 4096
  pub place : (k : ℕ) → place_of (k % 256) ≤ 64
  pub entry : (k : ℕ) → folded_in kept_table (k % 256) ≡ get_or sine_table (k % 256) (pos 0)

-- and so are the sine and the cosine of every angle
pub record FoldedAt (angle : ℤ) : Type 0 where
  pub sine : sine_at angle ≡ folded_in kept_table (index_of angle)
  pub cosine : cosine_at angle ≡ folded_in kept_table ((index_of angle + 64) % 256)

abbrev pub SineByTheFolds : Type 0
SineByTheFolds = (angle : ℤ) → Angle angle → FoldedAt angle

-- in a run each row is one step, in order; its three compares and its number are written; it goes on after a trip
pub record RowByRow (d : Drive) (samples : List ℤ) : Type 0 where
  pub starts : (ran_of d samples 0).drive ≡ d
  pub goes_on : (i : ℕ) → (ran_of d samples (suc i)).drive ≡ (row_at d samples i).drive
  pub writes_none : written_of d samples 0 ≡ []
  pub writes : (i : ℕ) → written_of d samples (suc i) ≡ written_of d samples i ++ four (row_at d samples i)

abbrev pub RunByRows : Type 0
RunByRows = (d : Drive) (samples : List ℤ) → RowByRow d samples

-- how many steps were accepted and how many of those were clipped; places past the rows' output stay as they are
pub record AfterTheRows (d : Drive) (samples out : List ℤ) : Type 0 where
  pub drive : (run_of d samples out).drive ≡ (ran_of d samples (rows_in samples)).drive
  pub output : output_after d samples out ≡ written_of d samples (rows_in samples) ++ drop (4 * rows_in samples) out
  pub accepted : (run_of d samples out).accepted ≡ count_of (λ i. is_accepted (row_at d samples i)) (rows_in samples)
  pub clipped : (run_of d samples out).clipped ≡ count_of (λ i. is_clipped (row_at d samples i)) (rows_in samples)

abbrev pub RunAccepted : Type 0
RunAccepted = (d : Drive) (samples out : List ℤ) → broken d ≡ false → rows_fit (length samples) (length out) ≡ true → AfterTheRows d samples out

-- no rows at all is accepted, and changes nothing
abbrev pub RunOfNone : Type 0
RunOfNone = (d : Drive) (out : List ℤ) → broken d ≡ false → (run_of d [] out ≡ no_rows d (pos 0)) × (output_after d [] out ≡ out)

-- no call makes a broken record: no list of calls, accepted or refused, breaks a record, and none is ever broken
abbrev pub StaysUnbroken : Type 0
StaysUnbroken = (d : Drive) (cs : List Call) → broken d ≡ false → broken (after_calls d cs) ≡ false

abbrev pub NeverBroken : Type 0
NeverBroken = (d : Drive) → History d → broken d ≡ false

-- no list of calls changes the settings, and they are those that were accepted
abbrev pub SettingsStay : Type 0
SettingsStay = (d : Drive) (cs : List Call) → (after_calls d cs).settings ≡ d.settings

abbrev pub SettingsAsAccepted : Type 0
SettingsAsAccepted = (d : Drive) (r : History d) → d.settings ≡ r.settings
