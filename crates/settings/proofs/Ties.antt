-- A test `x == y` of two signed words compares bits: it is the rules' "equal".
-- Assumes nothing.
use mathlib.Core.Path.{◌≡◌, sym, ap, ◌∙◌}
use lib.Dec.{eqb}
use lib.IntN.{ℤ}
use borrow.Author.Tests.{eqb-true, eq-eqb}
use mir.Facts.{to_z-of_z}
use mir.Syntax.{Width}
use mir.Val.{SFits, to_z, of_z}
use Rattle.fixed.specs.Fixed.{equal}
use Rattle.fixed.proofs.HeldLaws.{equal_is}
use Rattle.fixed.proofs.Same.{both_or_neither}

pub same_words : (w : Width) {x y : ℤ} → SFits w x → SFits w y → eqb (of_z w x) (of_z w y) ≡ equal x y
same_words w {x} {y} f g =
    both_or_neither _ _
    (λ t. (equal_is x y).1 (sym (to_z-of_z g) ∙ sym (ap (to_z w) (eqb-true (of_z w x) (of_z w y) t)) ∙ to_z-of_z f))
    (λ t. eq-eqb _ _ (ap (of_z w) (sym ((equal_is x y).0 t))))
