-- Each public call is settled by its own contract, which is the equation itself, or for a run two of them. That there is no second outcome follows.
-- Assumes nothing.
use mathlib.Core.Path.{◌≡◌, sym, ◌∙◌, ap, ap₂}
use mathlib.Core.List.{List}
use mathlib.Core.Logic.{◌↔◌}
use Prim.Native.Nat.{ℕ}
use contract.Lifetimes.{Lfts}
use borrow.Fn.Kinds.{ParamKind, ResultKind, Dens, res_t, ended_of, In, Out}
use denote.Triple.Clauses.{AtExit}
use Rattle.promises.specs.Settled.{Settled, CheckSettled, FreshSettled, MakeSettled, NumberSettled, StepSettled, TargetSettled, ClearSettled}
use Rattle.promises.specs.Settled.{RunSettled, EmptySettled, RecordedStepSettled, RecordedClearSettled, CountSettled, RowSettled, FluxSettled}
use Rattle.promises.specs.Settled.{ReadSettled, WriteSettled, ReadSheetSettled, WriteSheetSettled}

settled : {n : ℕ} {ps : List (ParamKind n)} {r : ResultKind n} {asks : In n ps} {ensures : Out n ps r} {B : Type 0}
    {outcome : (κs : Lfts n) → (res_t r κs).Denot → AtExit (ended_of n ps r) κs → B} {definition : (κs : Lfts n) → Dens κs ps → B}
    → ((κs : Lfts n) (a : Dens κs ps) → asks κs a)
    → ((κs : Lfts n) (a : Dens κs ps) (u : (res_t r κs).Denot) (x : AtExit (ended_of n ps r) κs) → ensures κs a u x ↔ (outcome κs u x ≡ definition κs a))
    → Settled n ps r asks ensures outcome definition
settled p e = record { asks_nothing = p; as_defined = e; no_second = λ κs a u v x y l m. (e κs a u x).0 l ∙ sym ((e κs a v y).0 m) }

pub check_settled : CheckSettled
check_settled = settled (λ κs a. tt) (λ κs a u x. (λ p. p, λ p. p))

pub fresh_settled : FreshSettled
fresh_settled = settled (λ κs a. tt) (λ κs a u x. (λ p. p, λ p. p))

pub make_settled : MakeSettled
make_settled = settled (λ κs a. tt) (λ κs a u x. (λ p. p, λ p. p))

pub number_settled : NumberSettled
number_settled = settled (λ κs a. tt) (λ κs a u x. (λ p. p, λ p. p))

pub step_settled : StepSettled
step_settled = settled (λ κs a. tt) (λ κs a u x. (λ p. p, λ p. p))

pub target_settled : TargetSettled
target_settled = settled (λ κs a. tt) (λ κs a u x. (λ p. p, λ p. p))

pub clear_settled : ClearSettled
clear_settled = settled (λ κs a. tt) (λ κs a u x. (λ p. p, λ p. p))

pub empty_settled : EmptySettled
empty_settled = settled (λ κs a. tt) (λ κs a u x. (λ p. p, λ p. p))

pub recorded_step_settled : RecordedStepSettled
recorded_step_settled = settled (λ κs a. tt) (λ κs a u x. (λ p. p, λ p. p))

pub recorded_clear_settled : RecordedClearSettled
recorded_clear_settled = settled (λ κs a. tt) (λ κs a u x. (λ p. p, λ p. p))

pub count_settled : CountSettled
count_settled = settled (λ κs a. tt) (λ κs a u x. (λ p. p, λ p. p))

pub row_settled : RowSettled
row_settled = settled (λ κs a. tt) (λ κs a u x. (λ p. p, λ p. p))

pub flux_settled : FluxSettled
flux_settled = settled (λ κs a. tt) (λ κs a u x. (λ p. p, λ p. p))

-- two equations are one of the pair
module _ {A B : Type 0} {u v : A} {d e : B} where
  pub paired : (u ≡ v) × (d ≡ e) → ◌≡◌ {A = A × B} (u, d) (v, e)
  paired p = ap₂ {C = A × B} (λ (u : A) (d : B). (u, d)) p.0 p.1

  pub parted : ◌≡◌ {A = A × B} (u, d) (v, e) → (u ≡ v) × (d ≡ e)
  parted p = (ap (λ (r : A × B). r.0) p, ap (λ (r : A × B). r.1) p)

-- three are one of the pair of the first and the pair of the others
module _ {A B C : Type 0} {u v : A} {d e : B} {m n : C} where
  pub tripled : (u ≡ v) × (d ≡ e) × (m ≡ n) → ◌≡◌ {A = A × (B × C)} (u, (d, m)) (v, (e, n))
  tripled p = paired (p.0, paired (p.1, p.2))

  pub triparted : ◌≡◌ {A = A × (B × C)} (u, (d, m)) (v, (e, n)) → (u ≡ v) × (d ≡ e) × (m ≡ n)
  triparted p = let q = parted (parted p).1 in ((parted p).0, q.0, q.1)

pub run_settled : RunSettled
run_settled = settled (λ κs a. tt) (λ κs a u x. (paired, parted))

pub read_settled : ReadSettled
read_settled = settled (λ κs a. tt) (λ κs a u x. (λ p. p, λ p. p))

pub write_settled : WriteSettled
write_settled = settled (λ κs a. tt) (λ κs a u x. (paired, parted))

pub read_sheet_settled : ReadSheetSettled
read_sheet_settled = settled (λ κs a. tt) (λ κs a u x. (λ p. p, λ p. p))

pub write_sheet_settled : WriteSheetSettled
write_sheet_settled = settled (λ κs a. tt) (λ κs a u x. (paired, parted))
