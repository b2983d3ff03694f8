-- Two cases: of a Bool, of two numbers, of what a test chooses.
-- Assumes nothing.
use mathlib.Core.Path.{◌≡◌, refl}
use mathlib.Core.Bool.{Bool, true, false, cond}
use mathlib.Core.Logic.{◌⊎◌, inl, inr}
use Prim.Native.Nat.{ℕ, ◌≤◌, ◌<◌}
use lib.Dec.{ltb}
use borrow.Author.Tests.{ltb-true, ltb-false}

pub by_test : {C : Type 0} (t : Bool) → (t ≡ true → C) → (t ≡ false → C) → C
by_test true f g = f refl
by_test false f g = g refl

pub by_order : {C : Type 0} (m n : ℕ) → (m < n → C) → (n ≤ m → C) → C
by_order m n f g = by_test (ltb m n) (λ e. f (ltb-true m n e)) (λ e. g (ltb-false m n e))

-- the same as a choice of two
pub true_or_false : (t : Bool) → (t ≡ true) ⊎ (t ≡ false)
true_or_false t = by_test t inl inr

pub less_or_not : (m n : ℕ) → (m < n) ⊎ (n ≤ m)
less_or_not m n = by_order m n inl inr

-- what holds of either holds of the one that a test chooses
pub choose : {A : Type 0} (Q : A → Type 0) (b : Bool) (x y : A) → (b ≡ true → Q x) → (b ≡ false → Q y) → Q (cond b x y)
choose Q true x y f g = f refl
choose Q false x y f g = g refl
