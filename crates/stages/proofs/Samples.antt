-- `inside` of a number that is read, and what that says of its size.
-- Assumes nothing.
use mathlib.Core.Path.{◌≡◌, ◌∙◌, ap}
use mathlib.Core.Bool.{Bool, true}
use Prim.Native.Nat.{ℕ, ◌≤◌}
use lib.IntN.{ℤ, pos, neg_ℤ, nat_abs}
use Rattle.fixed.specs.Fixed.{within, inside}
use Rattle.fixed.proofs.HeldLaws.{within_abs}
use Rattle.fixed.proofs.Reading.{Reads}

pub inside_is : (b : ℕ) {r : Bool} {u x : ℤ} {m : ℕ} → r ≡ within (neg_ℤ (pos b)) (pos b) u → Reads u x m → r ≡ inside (pos b) x
unfolding inside
inside_is b e p = e ∙ ap (within (neg_ℤ (pos b)) (pos b)) p.is

pub inside_abs : (b : ℕ) (x : ℤ) → inside (pos b) x ≡ true → nat_abs x ≤ b
unfolding inside
inside_abs b x e = within_abs b x e
