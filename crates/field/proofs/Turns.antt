-- The full turns in an angle, and what they leave of it, as code works them out: by the library's quotient, or by its remainder.
-- Assumes nothing.
use mathlib.Core.Path.{◌≡◌, refl}
use mathlib.Core.Bool.{Bool, true, false}
use Prim.Native.Nat.{ℕ, suc, ◌-◌, ◌^◌}
use native.Mathlib.Omega.{arith}
use borrow.Author.Tests.{ltb-true, ltb-false}
use lib.Dec.{lit<, ltb}
use lib.IntN.{ℤ, pos, negsuc, ◌-ℤ◌, ◌*ℤ◌}
use lib.Signed.{lt_z_yes}
use mir.Syntax.{w32, w64}
use mir.Val.{SFits, to_z, of_z, sel}
use Rattle.std.specs.Int.{int_div_euclid, int_rem_euclid}
use Rattle.fixed.specs.Fixed.{down, modulo}
use Rattle.fixed.proofs.Parts.{order, parts-*}
use Rattle.fixed.proofs.Size.{fits←, fits_lo, fits_hi}
use Rattle.fixed.proofs.DownLaws.{down_low_parts, down_high_parts, modulo_lo, modulo_hi, euclid_is, euclid_rest}
use Rattle.fixed.proofs.Reading.{m32, m64, read32, read64, widen}

turns_is : (a : ℤ) → int_div_euclid a (pos 65536) ≡ down a (pos 65536)
turns_is a = euclid_is a (pos 65536) (lt_z_yes tt)

-- what is left is an angle, 0..65535
rest_fits : (a : ℤ) → SFits w32 (modulo a (pos 65536))
rest_fits a = fits← w32 _ (omega (arith, order, modulo_lo a (pos 65536) (lt_z_yes tt), modulo_hi a (pos 65536) (lt_z_yes tt)))

rest_of : (a : ℤ) → a -ℤ pos 65536 *ℤ int_div_euclid a (pos 65536) ≡ modulo a (pos 65536)
unfolding modulo
rest_of a = rw (turns_is a) refl

-- the turns fit where the angle does, in numbers and in parts of one
module _ (a : ℤ) (f : SFits w64 a) where
  turns_fit : SFits w64 (int_div_euclid a (pos 65536)) × SFits w64 (pos 65536 *ℤ int_div_euclid a (pos 65536))
  turns_fit =
      let product = parts-* (pos 65536) (down a (pos 65536)) in
      let low = down_low_parts a 65536 (lit< tt) in
      let high = down_high_parts a 65536 (lit< tt) in
      let lo = fits_lo w64 a f in
      let hi = fits_hi w64 a f in
      rw (turns_is a) (fits← w64 _ (omega arith), fits← w64 _ (omega arith))

-- a 64-bit local fits, whatever its bits are
fits_word : (n : ℕ) → SFits w64 (to_z w64 n)
fits_word n = by (ltb n (2 ^ 63)) refl
  where
    by : (b : Bool) → ltb n (2 ^ 63) ≡ b → SFits w64 (sel b (pos n) (negsuc (2 ^ 64 - suc n)))
    by true t = record { sfits = omega (arith, ltb-true n (2 ^ 63) t) }
    by false t = record { sfits = omega (arith, ltb-false n (2 ^ 63) t) }

-- ════ the same in locals: the angle is what m64 z holds, q its turns and r what they leave
pub turns_read : (z : ℤ) → SFits w64 (pos 65536 *ℤ m64 (int_div_euclid (m64 z) (pos 65536)))
turns_read z = let f = turns_fit (m64 z) (fits_word (of_z w64 z)) in rw (read64 _ f.0) f.1

module _ (z q : ℤ) (e : q ≡ int_div_euclid (m64 z) (pos 65536)) where
  left : m64 z -ℤ m64 (pos 65536 *ℤ m64 q) ≡ modulo (m64 z) (pos 65536)
  left = let f = turns_fit (m64 z) (fits_word (of_z w64 z)) in rw (e, read64 _ f.0, read64 _ f.1) (rest_of (m64 z))

  pub left_fits : SFits w64 (m64 z -ℤ m64 (pos 65536 *ℤ m64 q))
  left_fits = rw left (widen (rest_fits (m64 z)))

  pub left_cast : SFits w32 (m64 (m64 z -ℤ m64 (pos 65536 *ℤ m64 q)))
  left_cast = rw (left, read64 _ (widen (rest_fits (m64 z)))) (rest_fits (m64 z))

  pub left_is : (x : ℤ) → m64 z ≡ x → m32 (m64 (m64 z -ℤ m64 (pos 65536 *ℤ m64 q))) ≡ modulo x (pos 65536)
  left_is x h = rw (left, read64 _ (widen (rest_fits (m64 z))), read32 _ (rest_fits (m64 z)), h) refl

pub rest_is : (z r x : ℤ) → r ≡ int_rem_euclid (m64 z) (pos 65536) → m64 z ≡ x → m32 (m64 r) ≡ modulo x (pos 65536)
rest_is z r x e h = rw (e, euclid_rest (m64 z) 65536 (lit< tt), read64 _ (widen (rest_fits (m64 z))), read32 _ (rest_fits (m64 z)), h) refl

-- the two ways that code takes the turns away, and that what it works out fits
pub ruleset turning = (turns_read, left_fits, left_cast, left_is, rest_is)
