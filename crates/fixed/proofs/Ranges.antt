-- A test of ranges as named facts: a conjunction and its parts, a range and the size that it gives, ±limit for a limit that is itself in range.
-- Assumes nothing.
use mathlib.Core.Path.{◌≡◌}
use mathlib.Core.Bool.{Bool, true, ◌&&◌}
use Prim.Native.Nat.{ℕ, ◌≤◌}
use native.Mathlib.Omega.{arith}
use lib.IntN.{ℤ, pos, neg_ℤ, nat_abs}
use lib.Signed.{◌≤ℤ◌}
use Rattle.fixed.specs.Fixed.{within, Range, is_in}
use Rattle.fixed.proofs.Parts.{order, P-neg, N-neg}
use Rattle.fixed.proofs.Size.{abs←, abs_parts}
use Rattle.fixed.proofs.HeldLaws.{and_left, and_right, within_lo, within_hi, within_yes, within_size}

abbrev pub In : Range → ℤ → Type 0
In r x = is_in r x ≡ true

abbrev pub Inside : ℤ → ℤ → Type 0
Inside limit x = within (neg_ℤ limit) limit x ≡ true

-- ════ a conjunction of tests, and its parts
pub two : (a b : Bool) → (a && b) ≡ true → (a ≡ true) × (b ≡ true)
two a b e = (and_left a b e, and_right a b e)

pub three : (a b c : Bool) → (a && b && c) ≡ true → (a ≡ true) × (b ≡ true) × (c ≡ true)
three a b c e = let h = two a b (and_left (a && b) c e) in (h.0, h.1, and_right (a && b) c e)

pub four : (a b c d : Bool) → (a && b && c && d) ≡ true → (a ≡ true) × (b ≡ true) × (c ≡ true) × (d ≡ true)
four a b c d e = let h = three a b c (and_left (a && b && c) d e) in (h.0, h.1, h.2, and_right (a && b && c) d e)

pub five : (a b c d e : Bool) → (a && b && c && d && e) ≡ true → (a ≡ true) × (b ≡ true) × (c ≡ true) × (d ≡ true) × (e ≡ true)
five a b c d e t = let h = four a b c d (and_left (a && b && c && d) e t) in (h.0, h.1, h.2, h.3, and_right (a && b && c && d) e t)

-- ════ a range
pub in-lo : (r : Range) (x : ℤ) → In r x → pos r.lo ≤ℤ x
in-lo r x e = within_lo (pos r.lo) (pos r.hi) x e

pub in-hi : (r : Range) (x : ℤ) → In r x → x ≤ℤ pos r.hi
in-hi r x e = within_hi (pos r.lo) (pos r.hi) x e

pub in-up : (r : Range) (x : ℤ) → In r x → pos 0 ≤ℤ x
in-up r x e = omega (arith, order, in-lo r x e)

pub in_size : (r : Range) (x : ℤ) → In r x → nat_abs x ≤ r.hi
in_size r x e = within_size r.lo r.hi x e

-- ════ within ±limit
pub inside_size : (limit x : ℤ) (m : ℕ) → nat_abs limit ≤ m → Inside limit x → nat_abs x ≤ m
inside_size limit x m h e =
    abs← m x
    (omega (arith, order, within_lo (neg_ℤ limit) limit x e, abs_parts limit, P-neg limit, N-neg limit, P-neg (pos m), N-neg (pos m)))
    (omega (arith, order, within_hi (neg_ℤ limit) limit x e, abs_parts limit))

pub limits_cross : (limit : ℤ) → pos 1 ≤ℤ limit → neg_ℤ limit ≤ℤ limit
limits_cross limit h = omega (arith, order, P-neg limit, N-neg limit)

pub zero_inside : (limit : ℤ) → pos 1 ≤ℤ limit → Inside limit (pos 0)
zero_inside limit h = within_yes (neg_ℤ limit) limit (pos 0) (omega (arith, order, P-neg limit, N-neg limit)) (omega (arith, order))
