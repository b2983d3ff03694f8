-- Each call on records in place is settled by its own clauses, which are one, two or three equations. That there is no second outcome follows.
-- Assumes nothing.
use mathlib.Core.Path.{◌≡◌, sym, ◌∙◌}
use seplogic.Ra.Ura.{Ura}
use base.Logic.{SProp, ent, sep, emp, id⊢, via, fst∗, comm∗}
use prog.Model.{Model}
use types.Logic.{Logic}
use contract.Running.{Running}
use contract.Monad.{fact, fact_i, fact_mono, fact_use}
use denote.Triple.Clauses.{Ended, Clauses, AtExit}
use Rattle.promises.specs.InPlace.{Times, Given, Answer, SettledInPlace, StartInPlace, StepInPlace, TargetInPlace, ClearInPlace}
use Rattle.promises.specs.InPlace.{RecordedStartInPlace, RecordedStepInPlace, RecordedClearInPlace, RecordedCountInPlace, RecordedRowInPlace}
use Rattle.promises.proofs.Settled.{paired, parted, tripled, triparted}

module _ {M : Type 1} (𝓤 : Ura M) where
  -- two assertions that each give one outcome, as the definition's
  same : {B : Type 0} (P Q : SProp 𝓤) (z w : B) {d : B} → ent 𝓤 P (fact 𝓤 (z ≡ d)) → ent 𝓤 Q (fact 𝓤 (w ≡ d)) → ent 𝓤 (sep 𝓤 P Q) (fact 𝓤 (z ≡ w))
  same P Q z w {d} p q =
      fact_use 𝓤 (z ≡ d) (via 𝓤 P (fst∗ 𝓤 P Q) p) (λ e.
      fact_use 𝓤 (w ≡ d) (via 𝓤 (sep 𝓤 Q P) (comm∗ 𝓤 P Q) (via 𝓤 Q (fst∗ 𝓤 Q P) q)) (λ f. fact_i 𝓤 (z ≡ w) (sep 𝓤 P Q) (e ∙ sym f)))

  settled : {T : Ended} {c : Clauses 𝓤 T} {B : Type 0} {outcome : (κs : Times T) → Answer T κs → AtExit T κs → B}
      {definition : (κs : Times T) → Given T κs → B}
      → ((κs : Times T) (a : Given T κs) (g : (c κs a).ghost) → ent 𝓤 (emp 𝓤) ((c κs a).requires g))
      → ((κs : Times T) (a : Given T κs) (g : (c κs a).ghost) (u : Answer T κs) (x : AtExit T κs)
      → ent 𝓤 ((c κs a).ensures g u x) (fact 𝓤 (outcome κs u x ≡ definition κs a)))
      → ((κs : Times T) (a : Given T κs) (g : (c κs a).ghost) (u : Answer T κs) (x : AtExit T κs)
      → ent 𝓤 (fact 𝓤 (outcome κs u x ≡ definition κs a)) ((c κs a).ensures g u x))
      → SettledInPlace 𝓤 T c outcome definition
  settled p l m = record {
    asks_nothing = p;
    only_defined = l;
    defined = m;
    no_second = λ κs a g h u v x y. same _ _ _ _ (l κs a g u x) (l κs a h v y);
  }

  module _ (𝓛 : Logic 𝓤) (𝓜 : Model 𝓤 𝓛.H) (𝓡 : Running 𝓤 𝓛.H 𝓜) where
    pub start_in_place : StartInPlace 𝓛 𝓜 𝓡
    start_in_place = settled (λ κs a g. id⊢ 𝓤 (emp 𝓤)) (λ κs a g u x. fact_mono 𝓤 _ _ paired) (λ κs a g u x. fact_mono 𝓤 _ _ parted)

    pub step_in_place : StepInPlace 𝓛 𝓜 𝓡
    step_in_place = settled (λ κs a g. id⊢ 𝓤 (emp 𝓤)) (λ κs a g u x. fact_mono 𝓤 _ _ paired) (λ κs a g u x. fact_mono 𝓤 _ _ parted)

    pub target_in_place : TargetInPlace 𝓛 𝓜 𝓡
    target_in_place = settled (λ κs a g. id⊢ 𝓤 (emp 𝓤)) (λ κs a g u x. fact_mono 𝓤 _ _ paired) (λ κs a g u x. fact_mono 𝓤 _ _ parted)

    pub clear_in_place : ClearInPlace 𝓛 𝓜 𝓡
    clear_in_place = settled (λ κs a g. id⊢ 𝓤 (emp 𝓤)) (λ κs a g u x. fact_mono 𝓤 _ _ paired) (λ κs a g u x. fact_mono 𝓤 _ _ parted)

    pub recorded_start_in_place : RecordedStartInPlace 𝓛 𝓜 𝓡
    recorded_start_in_place =
        settled (λ κs a g. id⊢ 𝓤 (emp 𝓤)) (λ κs a g u x. fact_mono 𝓤 _ _ tripled) (λ κs a g u x. fact_mono 𝓤 _ _ triparted)

    pub recorded_step_in_place : RecordedStepInPlace 𝓛 𝓜 𝓡
    recorded_step_in_place =
        settled (λ κs a g. id⊢ 𝓤 (emp 𝓤)) (λ κs a g u x. fact_mono 𝓤 _ _ tripled) (λ κs a g u x. fact_mono 𝓤 _ _ triparted)

    pub recorded_clear_in_place : RecordedClearInPlace 𝓛 𝓜 𝓡
    recorded_clear_in_place =
        settled (λ κs a g. id⊢ 𝓤 (emp 𝓤)) (λ κs a g u x. fact_mono 𝓤 _ _ tripled) (λ κs a g u x. fact_mono 𝓤 _ _ triparted)

    pub recorded_count_in_place : RecordedCountInPlace 𝓛 𝓜 𝓡
    recorded_count_in_place = settled (λ κs a g. id⊢ 𝓤 (emp 𝓤)) (λ κs a g u x. id⊢ 𝓤 _) (λ κs a g u x. id⊢ 𝓤 _)

    pub recorded_row_in_place : RecordedRowInPlace 𝓛 𝓜 𝓡
    recorded_row_in_place = settled (λ κs a g. id⊢ 𝓤 (emp 𝓤)) (λ κs a g u x. id⊢ 𝓤 _) (λ κs a g u x. id⊢ 𝓤 _)
