-- Demand 1: bad settings, records, samples, targets and lists are refused with the rules' numbers, each exactly when its table says, with the effect
-- that it says. The tables stand beside the calls: settings/specs/Settings `refusals`, drive/specs/Calls, rows/specs/Rows; what `Exactly` says of one is
-- in fixed/specs/Ladder.
use Rattle.std.specs.Prelude.{◌≡◌, Bool, true, false, List, [], ◌++◌, ◌↔◌, ℕ, ◌*◌, ℤ, pos, drop, Ok}
use Rattle.fixed.specs.Refusal.{refuse}
use Rattle.fixed.specs.Fixed.{within}
use Rattle.fixed.specs.Ladder.{Exactly}
use Rattle.settings.specs.declared.Settings.{Settings}
use Rattle.settings.specs.Settings.{refusals, refusal, accepted, checked, checked_number}
use Rattle.settings.specs.Words.{words_of, values_of}
use Rattle.drive_record.specs.declared.Drive.{Drive}
use Rattle.stages.specs.declared.Stepped.{Stepped}
use Rattle.stages.specs.Step.{advanced}
use Rattle.drive.specs.Calls.{fresh, make_table, made, made_number, step_table, stepped, answered, with_target, target_table, targeted, clear_table, cleared}
use Rattle.sheet.specs.Sheet.{read_sheet, wrote}
use Rattle.sheet.specs.Calls.{reading_of, writing_of}
use Rattle.rows.specs.declared.Ran.{Ran}
use Rattle.rows.specs.Rows.{is_accepted, no_rows, ran_of, written_of, rows_in, run_table, run_of, output_after}

-- the table of numbers, for each call: the settings' check and what they make, a step, a target, a clear
abbrev pub CheckTable : Type 0
CheckTable = (s : Settings) → Exactly checked_number (refusals s) (Ok s) (checked s)

abbrev pub MakeTable : Type 0
MakeTable = (s : Settings) → Exactly made_number (make_table s) (Ok (fresh s)) (made s)

abbrev pub StepTable : Type 0
StepTable = (d : Drive) (ia ib count : ℤ) → Exactly (λ a. a.number) (step_table d ia ib count) (advanced d ia ib count) (stepped d ia ib count)

abbrev pub TargetTable : Type 0
TargetTable = (d : Drive) (wanted : ℤ) → Exactly (λ a. a.number) (target_table d wanted) (answered (with_target d wanted) (pos 0)) (targeted d wanted)

abbrev pub ClearTable : Type 0
ClearTable = (d : Drive) → Exactly (λ a. a.number) (clear_table d) (answered (fresh d.settings) (pos 0)) (cleared d)

-- a run, with the numbers lent to it: nothing written, the record as it was, both counts 0; or what stands after the rows and what they write, the numbers
-- past their output as they were
abbrev pub Run : Type 0
Run = Ran × List ℤ

abbrev pub unrun : Drive → List ℤ → ℤ → Run
unrun d out number = (no_rows d number, out)

abbrev pub all_run : Drive → List ℤ → List ℤ → Run
all_run d samples out = (ran_of d samples (rows_in samples), written_of d samples (rows_in samples) ++ drop (4 * rows_in samples) out)

abbrev pub RunTable : Type 0
RunTable = (d : Drive) (samples out : List ℤ) →
    Exactly (λ (r : Run). r.0.number) (run_table d samples out (unrun d out)) (all_run d samples out) (run_of d samples out, output_after d samples out)

-- from settings either a drive or a number, never both: accepted, the fresh drive, and of the check their own words; else the reason of the number
-- that refuses them, whose own number is that one, and no words
pub record Either (s : Settings) : Type 0 where
  pub drive : accepted s ≡ true → made s ≡ Ok (fresh s)
  pub number : accepted s ≡ false → made s ≡ refuse (refusal s)
  pub number_is : accepted s ≡ false → made_number (made s) ≡ refusal s
  pub values : accepted s ≡ true → values_of (checked s) ≡ words_of s
  pub no_values : accepted s ≡ false → values_of (checked s) ≡ []

abbrev pub DriveOrNumber : Type 0
DriveOrNumber = (s : Settings) → Either s

-- a number is 0 exactly when settings, or a step, are accepted
pub record ZeroIfAccepted : Type 0 where
  pub settings : (s : Settings) → (accepted s ≡ true) ↔ (made_number (made s) ≡ pos 0)
  pub step : (s : Stepped) → (is_accepted s ≡ true) ↔ (s.number ≡ pos 0)

-- 11, 12 and 13 are free: no call gives them
abbrev pub spare : ℤ → Bool
spare number = within (pos 11) (pos 13) number

abbrev pub Free : ℤ → Type 0
Free number = spare number ≡ false

pub record KeptFree : Type 0 where
  pub make_free : (s : Settings) → Free (made_number (made s))
  pub step_free : (d : Drive) (ia ib count : ℤ) → Free (stepped d ia ib count).number
  pub target_free : (d : Drive) (wanted : ℤ) → Free (targeted d wanted).number
  pub clear_free : (d : Drive) → Free (cleared d).number
  pub run_free : (d : Drive) (samples out : List ℤ) → Free (run_of d samples out).number
  pub read_free : (text : List ℕ) → Free (reading_of (read_sheet text)).number
  pub write_free : (s : Settings) (room : ℕ) → Free (writing_of (wrote s room)).number
