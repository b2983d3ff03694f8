-- What tests of words share: what `if !f(..)` says of the definition that f's contract names, and how a word of a struct reads
-- that came back from its bits.
-- Assumes nothing.
use mathlib.Core.Path.{◌≡◌, sym, ◌∙◌, refl, subst}
use mathlib.Core.Bool.{Bool, true, false}
use Prim.Native.Nat.{ℕ, suc, ◌-◌, ◌^◌, ◌≤◌}
use native.Mathlib.Omega.{arith}
use borrow.Author.Tests.{ltb-true, ltb-false}
use lib.Dec.{ltb}
use lib.IntN.{ℤ, pos, negsuc, nat_abs}
use mir.Syntax.{w32, w64}
use mir.Val.{to_z, of_z, sel}
use Rattle.fixed.proofs.Reading.{Reads, m32, m64, stored}

pub no : {r b : Bool} → r ≡ b → r ≡ false → b ≡ false
no e t = sym e ∙ t

pub yes : {r b : Bool} → r ≡ b → r ≡ true → b ≡ true
yes e t = sym e ∙ t

-- no 32 bits hold a larger number
size : (n : ℕ) → nat_abs (to_z w32 n) ≤ 2 ^ 31
size n = by (ltb n (2 ^ 31)) refl
  where
    by : (b : Bool) → ltb n (2 ^ 31) ≡ b → nat_abs (sel b (pos n) (negsuc (2 ^ 32 - suc n))) ≤ 2 ^ 31
    by true e = omega (arith, ltb-true n (2 ^ 31) e)
    by false e = omega (arith, ltb-false n (2 ^ 31) e)

pub field : {x : ℤ} → m32 x ≡ x → Reads (m32 x) x (2 ^ 31)
field {x} e = record { is = e; size = subst (λ (z : ℤ). nat_abs z ≤ 2 ^ 31) e (size (of_z w32 x)) }

-- cast to 64 bits
pub wide : {x : ℤ} → m32 x ≡ x → Reads (m64 (m32 x)) x (2 ^ 31)
wide e = stored w64 (field e) tt
