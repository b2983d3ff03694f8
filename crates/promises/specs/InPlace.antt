-- The calls on records in place, of the interrupt side. A contract on a `&mut` of a record is read in the logic: `clauses`, of the function's own
-- module, are what its proof meets, over any resources 𝓤. ⊢ is what follows in it, and `fact` a plain fact.
use Rattle.std.specs.Prelude.{◌≡◌, ℤ, pos}
use seplogic.Ra.Ura.{Ura}
use base.Logic.{ent, sep, emp}
use prog.Model.{Model}
use types.Logic.{Logic}
use contract.Running.{Running}
use contract.Monad.{fact}
use contract.Lifetimes.{Lfts}
use denote.Triple.Entry.{Args, Res}
use denote.Triple.Clauses.{Ended, Clauses, AtExit}
use Rattle.drive_record.specs.declared.Drive.{Drive}
use Rattle.drive.specs.Calls.{made, made_number, stepped, targeted, cleared}
use Rattle.interrupt.specs.declared.Output.{Output}
use Rattle.interrupt.specs.Interrupt.{output_of, drive_or}
use Rattle.interrupt.specs.contracts.mirgalhet_start as start
use Rattle.interrupt.specs.contracts.mirgalhet_step as step
use Rattle.interrupt.specs.contracts.mirgalhet_target as target
use Rattle.interrupt.specs.contracts.mirgalhet_clear as clear
use Rattle.moments.specs.declared.Moments.{Moments}
use Rattle.moments.specs.declared.Found.{Found}
use Rattle.moments.specs.Moments.{kept, emptied_by, real_rows, moment_at}
use Rattle.recorder.specs.contracts.mirgalhet_recorded_start as recorded_start
use Rattle.recorder.specs.contracts.mirgalhet_recorded_step as recorded_step
use Rattle.recorder.specs.contracts.mirgalhet_recorded_clear as recorded_clear
use Rattle.recorder.specs.contracts.mirgalhet_recorded_count as recorded_count
use Rattle.recorder.specs.contracts.mirgalhet_recorded_row as recorded_row

-- a call's lifetimes, its arguments and its answer
module _ (T : Ended) where
  abbrev pub Times : Type 0
  Times = Lfts T.signature.lifetimes

  abbrev pub Given : Times → Type 0
  Given κs = Args T.signature κs

  abbrev pub Answer : Times → Type 0
  Answer κs = Res T.signature κs

-- a call T with clauses c. Its outcome is read of the answer u and of the parameters at exit, x. Of all arguments a it asks nothing; what it ensures
-- is the fact that the outcome is the definition's; and no second outcome
pub record SettledInPlace {M : Type 1} (𝓤 : Ura M) (T : Ended) (c : Clauses 𝓤 T) {B : Type 0}
    (outcome : (κs : Times T) → Answer T κs → AtExit T κs → B) (definition : (κs : Times T) → Given T κs → B) : Type 1 where
  pub asks_nothing : (κs : Times T) (a : Given T κs) (g : (c κs a).ghost) → ent 𝓤 (emp 𝓤) ((c κs a).requires g)
  pub only_defined : (κs : Times T) (a : Given T κs) (g : (c κs a).ghost) (u : Answer T κs) (x : AtExit T κs)
      → ent 𝓤 ((c κs a).ensures g u x) (fact 𝓤 (outcome κs u x ≡ definition κs a))
  pub defined : (κs : Times T) (a : Given T κs) (g : (c κs a).ghost) (u : Answer T κs) (x : AtExit T κs)
      → ent 𝓤 (fact 𝓤 (outcome κs u x ≡ definition κs a)) ((c κs a).ensures g u x)
  pub no_second : (κs : Times T) (a : Given T κs) (g h : (c κs a).ghost) (u v : Answer T κs) (x y : AtExit T κs)
      → ent 𝓤 (sep 𝓤 ((c κs a).ensures g u x) ((c κs a).ensures h v y)) (fact 𝓤 (outcome κs u x ≡ outcome κs v y))

-- the answer, and the record in the place that was lent
module _ {M : Type 1} {𝓤 : Ura M} (𝓛 : Logic 𝓤) (𝓜 : Model 𝓤 𝓛.H) (𝓡 : Running 𝓤 𝓛.H 𝓜) where
  abbrev pub StartInPlace : Type 1
  StartInPlace = SettledInPlace 𝓤 start.ended (start.clauses 𝓛 𝓜.mem 𝓡.run) {B = ℤ × Drive} (λ κs u x. (u, x.0.now))
      (λ κs a. (made_number (made a.1.0), drive_or a.0.now (made a.1.0)))

  abbrev pub StepInPlace : Type 1
  StepInPlace = SettledInPlace 𝓤 step.ended (step.clauses 𝓛 𝓜.mem 𝓡.run) {B = Output × Drive} (λ κs u x. (u, x.0.now))
      (λ κs a. let s = stepped a.0.now a.1.0 a.1.1.0 a.1.1.1.0 in (output_of s, s.drive))

  abbrev pub TargetInPlace : Type 1
  TargetInPlace = SettledInPlace 𝓤 target.ended (target.clauses 𝓛 𝓜.mem 𝓡.run) {B = ℤ × Drive} (λ κs u x. (u, x.0.now))
      (λ κs a. let t = targeted a.0.now a.1.0 in (t.number, t.drive))

  abbrev pub ClearInPlace : Type 1
  ClearInPlace = SettledInPlace 𝓤 clear.ended (clear.clauses 𝓛 𝓜.mem 𝓡.run) {B = ℤ × Drive} (λ κs u x. (u, x.0.now))
      (λ κs a. let t = cleared a.0.now in (t.number, t.drive))

  -- recorded: the answer, the drive record and the record of moments beside it
  abbrev pub Places : Type 0
  Places = Drive × Moments

  abbrev pub RecordedStartInPlace : Type 1
  RecordedStartInPlace = SettledInPlace 𝓤 recorded_start.ended (recorded_start.clauses 𝓛 𝓜.mem 𝓡.run) {B = ℤ × Places}
      (λ κs u x. (u, (x.0.now, x.1.0.now)))
      (λ κs a. let m = made a.1.1.0 in (made_number m, (drive_or a.0.now m, emptied_by a.1.0.now (made_number m))))

  abbrev pub RecordedStepInPlace : Type 1
  RecordedStepInPlace = SettledInPlace 𝓤 recorded_step.ended (recorded_step.clauses 𝓛 𝓜.mem 𝓡.run) {B = Output × Places}
      (λ κs u x. (u, (x.0.now, x.1.0.now)))
      (λ κs a. let s = stepped a.0.now a.1.1.0 a.1.1.1.0 a.1.1.1.1.0 in
      (output_of s, (s.drive, kept a.1.0.now a.1.1.0 a.1.1.1.0 s)))

  abbrev pub RecordedClearInPlace : Type 1
  RecordedClearInPlace = SettledInPlace 𝓤 recorded_clear.ended (recorded_clear.clauses 𝓛 𝓜.mem 𝓡.run) {B = ℤ × Places}
      (λ κs u x. (u, (x.0.now, x.1.0.now)))
      (λ κs a. let t = cleared a.0.now in (t.number, (t.drive, emptied_by a.1.0.now t.number)))

  -- a record of moments that is looked at: the answer
  abbrev pub RecordedCountInPlace : Type 1
  RecordedCountInPlace = SettledInPlace 𝓤 recorded_count.ended (recorded_count.clauses 𝓛 𝓜.mem 𝓡.run) {B = ℤ} (λ κs u x. u)
      (λ κs a. pos (real_rows a.0.now))

  abbrev pub RecordedRowInPlace : Type 1
  RecordedRowInPlace = SettledInPlace 𝓤 recorded_row.ended (recorded_row.clauses 𝓛 𝓜.mem 𝓡.run) {B = Found} (λ κs u x. u)
      (λ κs a. moment_at a.0.now a.1.0)
