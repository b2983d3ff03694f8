-- The promises are of the code: each public call's own contract, `Post`, which the function's proof meets, allows just the answer that its
-- definition gives, for all arguments, and asks nothing, `Pre`. So there is no second outcome.
use Rattle.std.specs.Prelude.{◌≡◌, ◌↔◌, List, ℕ, ℤ, pos, length, Result}
use contract.Lifetimes.{Lfts}
use borrow.Fn.Kinds.{ParamKind, ResultKind, Dens, res_t, ended_of, In, Out}
use denote.Triple.Clauses.{AtExit}
use Rattle.settings.proofs.check.Reads as check
use Rattle.settings.proofs.check.Kinds as check_kinds
use Rattle.drive.proofs.fresh.Reads as fresh
use Rattle.drive.proofs.fresh.Kinds as fresh_kinds
use Rattle.drive.proofs.make.Reads as make
use Rattle.drive.proofs.make.Kinds as make_kinds
use Rattle.drive.proofs.number_of.Reads as number_of
use Rattle.drive.proofs.number_of.Kinds as number_of_kinds
use Rattle.drive.proofs.step.Reads as step
use Rattle.drive.proofs.step.Kinds as step_kinds
use Rattle.drive.proofs.target.Reads as target
use Rattle.drive.proofs.target.Kinds as target_kinds
use Rattle.drive.proofs.clear.Reads as clear
use Rattle.drive.proofs.clear.Kinds as clear_kinds
use Rattle.rows.proofs.run.Reads as run
use Rattle.rows.proofs.run.Kinds as run_kinds
use Rattle.moments.proofs.empty.Reads as empty
use Rattle.moments.proofs.empty.Kinds as empty_kinds
use Rattle.moments.proofs.recorded_step.Reads as recorded_step
use Rattle.moments.proofs.recorded_step.Kinds as recorded_step_kinds
use Rattle.moments.proofs.recorded_clear.Reads as recorded_clear
use Rattle.moments.proofs.recorded_clear.Kinds as recorded_clear_kinds
use Rattle.moments.proofs.real_rows.Reads as the_count
use Rattle.moments.proofs.real_rows.Kinds as real_rows_kinds
use Rattle.moments.proofs.moment.Reads as moment
use Rattle.moments.proofs.moment.Kinds as moment_kinds
use Rattle.interrupt.proofs.mirgalhet_flux.Reads as mirgalhet_flux
use Rattle.interrupt.proofs.mirgalhet_flux.Kinds as mirgalhet_flux_kinds
use Rattle.sheet.proofs.read.Reads as read
use Rattle.sheet.proofs.read.Kinds as read_kinds
use Rattle.sheet.proofs.write.Reads as write
use Rattle.sheet.proofs.write.Kinds as write_kinds
use Rattle.sheet.proofs.mirgalhet_read_sheet.Reads as mirgalhet_read_sheet
use Rattle.sheet.proofs.mirgalhet_read_sheet.Kinds as mirgalhet_read_sheet_kinds
use Rattle.sheet.proofs.mirgalhet_write_sheet.Reads as mirgalhet_write_sheet
use Rattle.sheet.proofs.mirgalhet_write_sheet.Kinds as mirgalhet_write_sheet_kinds
use Rattle.field.specs.Field.{flux_of}
use Rattle.settings.specs.Settings.{checked}
use Rattle.drive.specs.Calls.{fresh as fresh_of, made, made_number, stepped, targeted, cleared}
use Rattle.rows.specs.Rows.{run_of, output_after}
use Rattle.sheet.specs.declared.Unwritten.{Unwritten}
use Rattle.sheet.specs.declared.Writing.{Writing}
use Rattle.sheet.specs.Sheet.{read_sheet, wrote, sheet_in}
use Rattle.sheet.specs.Calls.{reading_of, writing_of}
use Rattle.moments.specs.Moments.{none, recorded, emptied, real_rows, moment_at}
use Rattle.promises.specs.Demand1.{Run}

-- a call with n lifetimes, parameters ps and result r, that asks and ensures so much. Its outcome is read of the result u and of what the parameters
-- are at exit, x. Of all arguments a it asks nothing; it allows an outcome exactly when this is the definition's; and no second one
pub record Settled (n : ℕ) (ps : List (ParamKind n)) (r : ResultKind n) (asks : In n ps) (ensures : Out n ps r) {B : Type 0}
    (outcome : (κs : Lfts n) → (res_t r κs).Denot → AtExit (ended_of n ps r) κs → B) (definition : (κs : Lfts n) → Dens κs ps → B) : Type 0 where
  pub asks_nothing : (κs : Lfts n) (a : Dens κs ps) → asks κs a
  pub as_defined : (κs : Lfts n) (a : Dens κs ps) (u : (res_t r κs).Denot) (x : AtExit (ended_of n ps r) κs)
      → ensures κs a u x ↔ (outcome κs u x ≡ definition κs a)
  pub no_second : (κs : Lfts n) (a : Dens κs ps) (u v : (res_t r κs).Denot) (x y : AtExit (ended_of n ps r) κs)
      → ensures κs a u x → ensures κs a v y → outcome κs u x ≡ outcome κs v y

-- settings: the check, the fresh drive, what they make and its number
abbrev pub CheckSettled : Type 0
CheckSettled = Settled 0 check_kinds.ps check_kinds.r check.Pre check.Post (λ κs u x. u) (λ κs a. checked a.0)

abbrev pub FreshSettled : Type 0
FreshSettled = Settled 0 fresh_kinds.ps fresh_kinds.r fresh.Pre fresh.Post (λ κs u x. u) (λ κs a. fresh_of a.0)

abbrev pub MakeSettled : Type 0
MakeSettled = Settled 0 make_kinds.ps make_kinds.r make.Pre make.Post (λ κs u x. u) (λ κs a. made a.0)

abbrev pub NumberSettled : Type 0
NumberSettled = Settled 0 number_of_kinds.ps number_of_kinds.r number_of.Pre number_of.Post (λ κs u x. u) (λ κs a. made_number a.0)

-- a step, of a drive, ia, ib and count
abbrev pub StepSettled : Type 0
StepSettled = Settled 0 step_kinds.ps step_kinds.r step.Pre step.Post (λ κs u x. u) (λ κs a. stepped a.0 a.1.0 a.1.1.0 a.1.1.1.0)

-- a target, of a drive and what is wanted
abbrev pub TargetSettled : Type 0
TargetSettled = Settled 0 target_kinds.ps target_kinds.r target.Pre target.Post (λ κs u x. u) (λ κs a. targeted a.0 a.1.0)

abbrev pub ClearSettled : Type 0
ClearSettled = Settled 0 clear_kinds.ps clear_kinds.r clear.Pre clear.Post (λ κs u x. u) (λ κs a. cleared a.0)

-- a run, of a drive, samples and output: the answer, with the drive and both counts, and the numbers lent to it
abbrev pub lent : (κs : Lfts 2) → AtExit (ended_of 2 run_kinds.ps run_kinds.r) κs → List ℤ
lent κs x = x.1.1.0.now

abbrev pub RunSettled : Type 0
RunSettled = Settled 2 run_kinds.ps run_kinds.r run.Pre run.Post {B = Run} (λ κs u x. (u, lent κs x))
    (λ κs a. (run_of a.0 a.1.0.now a.1.1.0.now, output_after a.0 a.1.0.now a.1.1.0.now))

-- the record of the last moments: an empty one; a recorded step, of a drive, a record, ia, ib and count; a recorded clear
abbrev pub EmptySettled : Type 0
EmptySettled = Settled 0 empty_kinds.ps empty_kinds.r empty.Pre empty.Post (λ κs u x. u) (λ κs a. none)

abbrev pub RecordedStepSettled : Type 0
RecordedStepSettled = Settled 0 recorded_step_kinds.ps recorded_step_kinds.r recorded_step.Pre recorded_step.Post (λ κs u x. u)
    (λ κs a. recorded a.0 a.1.0 a.1.1.0 a.1.1.1.0 a.1.1.1.1.0)

abbrev pub RecordedClearSettled : Type 0
RecordedClearSettled = Settled 0 recorded_clear_kinds.ps recorded_clear_kinds.r recorded_clear.Pre recorded_clear.Post (λ κs u x. u)
    (λ κs a. emptied a.0 a.1.0)

-- how many of its rows are real, and the row at a number
abbrev pub CountSettled : Type 0
CountSettled = Settled 0 real_rows_kinds.ps real_rows_kinds.r the_count.Pre the_count.Post (λ κs u x. u) (λ κs a. pos (real_rows a.0))

abbrev pub RowSettled : Type 0
RowSettled = Settled 0 moment_kinds.ps moment_kinds.r moment.Pre moment.Post (λ κs u x. u) (λ κs a. moment_at a.0 a.1.0)

-- the flux of a record's word
abbrev pub FluxSettled : Type 0
FluxSettled = Settled 0 mirgalhet_flux_kinds.ps mirgalhet_flux_kinds.r mirgalhet_flux.Pre mirgalhet_flux.Post (λ κs u x. u) (λ κs a. flux_of a.0)

-- a sheet that is read, and one that is written: the answer, and the bytes lent to it
abbrev pub ReadSettled : Type 0
ReadSettled = Settled 1 read_kinds.ps read_kinds.r read.Pre read.Post (λ κs u x. u) (λ κs a. read_sheet a.0.now)

abbrev pub WriteSettled : Type 0
WriteSettled = Settled 1 write_kinds.ps write_kinds.r write.Pre write.Post {B = Result ℕ Unwritten × List ℕ} (λ κs u x. (u, x.1.0.now))
    (λ κs a. (wrote a.0 (length a.1.0.now), sheet_in a.0 a.1.0.now))

-- the same for C
abbrev pub ReadSheetSettled : Type 0
ReadSheetSettled = Settled 1 mirgalhet_read_sheet_kinds.ps mirgalhet_read_sheet_kinds.r mirgalhet_read_sheet.Pre mirgalhet_read_sheet.Post (λ κs u x. u)
    (λ κs a. reading_of (read_sheet a.0.now))

abbrev pub WriteSheetSettled : Type 0
WriteSheetSettled = Settled 1 mirgalhet_write_sheet_kinds.ps mirgalhet_write_sheet_kinds.r mirgalhet_write_sheet.Pre mirgalhet_write_sheet.Post
    {B = Writing × List ℕ} (λ κs u x. (u, x.1.0.now)) (λ κs a. (writing_of (wrote a.0 (length a.1.0.now)), sheet_in a.0 a.1.0.now))
