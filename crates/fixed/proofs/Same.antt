-- A test `x == k` of a signed word compares bits: it is the rules' "equal".
-- Assumes nothing.
use mathlib.Core.Path.{◌≡◌, refl, sym, ap, ◌∙◌}
use mathlib.Core.Bool.{Bool, true, false}
use Prim.Native.Nat.{ℕ}
use lib.Dec.{eqb}
use lib.IntN.{ℤ}
use borrow.Author.Tests.{eqb-true, eq-eqb}
use mir.Facts.{to_z-of_z}
use mir.Syntax.{w32}
use mir.Val.{SFits, to_z, of_z}
use Rattle.fixed.specs.Fixed.{equal}
use Rattle.fixed.proofs.HeldLaws.{equal_is}

-- two tests are one where each is true only with the other
pub both_or_neither : (a b : Bool) → (a ≡ true → b ≡ true) → (b ≡ true → a ≡ true) → a ≡ b
both_or_neither true b f g = sym (f refl)
both_or_neither false true f g = g refl
both_or_neither false false f g = refl

-- j are the bits of a number
pub same_word : {x : ℤ} (j : ℕ) → of_z w32 (to_z w32 j) ≡ j → SFits w32 x → eqb (of_z w32 x) j ≡ equal (to_z w32 j) x
same_word {x} j e f =
    both_or_neither (eqb (of_z w32 x) j) (equal (to_z w32 j) x)
    (λ t. (equal_is (to_z w32 j) x).1 (sym (to_z-of_z f) ∙ ap (to_z w32) (eqb-true (of_z w32 x) j t)))
    (λ t. eq-eqb (of_z w32 x) j (ap (of_z w32) ((equal_is (to_z w32 j) x).0 t) ∙ e))
