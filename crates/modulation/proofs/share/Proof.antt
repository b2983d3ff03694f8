-- `modulation::share` meets its contract: none of its numbers is negative, so that the quotient of naturals is the one rounded down.
-- Assumes nothing.
use mathlib.Core.Path.{◌≡◌, refl, ◌∙◌}
use Prim.Native.Nat.{◌*◌, ◌/◌, ◌≤◌}
use native.Mathlib.Nat.{mul-le-mul, div-le_of_le-mul, le_refl, le_trans, lt_of_le_of_lt}
use native.Mathlib.Omega.{arith}
use lib.Dec.{lit<}
use lib.IntN.{ℤ, pos, negsuc, nat_abs}
use lib.Signed.{◌≤ℤ◌}
use mir.Facts.{to_z-of_z}
use mir.Syntax.{w32}
use mir.Val.{SFits}
use Rattle.fixed.specs.Fixed.{down}
use Rattle.fixed.proofs.Parts.{order}
use Rattle.fixed.proofs.Size.{abs_parts}
use Rattle.fixed.proofs.Reading.{Reads, m32, small, sized, word, unsigned}
use Rattle.modulation.specs.Modulation.{share_of, longest}
use Rattle.modulation.proofs.share.Statement.{statement}
use Rattle.modulation.proofs.share.Tie as tie

-- ════ over the integers
quotient : (t s x : ℤ) → pos 0 ≤ℤ t → pos 0 ≤ℤ x → x ≤ℤ s → pos (nat_abs x * nat_abs t / nat_abs s) ≡ share_of t s x
unfolding share_of down
quotient (pos t) (pos s) (pos x) h k l = refl
quotient (negsuc t) s x h k l = absurd h.le
quotient (pos t) s (negsuc x) h k l = absurd k.le
quotient (pos t) (negsuc s) (pos x) h k l = absurd l.le

-- a share is no longer than the period
at_most : (t s x : ℤ) → pos 0 ≤ℤ x → x ≤ℤ s → nat_abs x * nat_abs t / nat_abs s ≤ nat_abs t
at_most t (pos s) (pos x) k l = let p : x ≤ s = omega (arith, order) in div-le_of_le-mul s (omega (arith, mul-le-mul p (le_refl (nat_abs t))))
at_most t s (negsuc x) k l = absurd k.le
at_most t (negsuc s) (pos x) k l = absurd l.le

-- ════ the code
time : (s : tie.Start) → Reads (m32 s.args.x) s.args.x 100000
time s = sized s.ranges.x s.requires.1.size

period : (s : tie.Start) → Reads (m32 s.args.t) s.args.t longest
period s = sized s.ranges.t s.requires.0.size

quotient_fits : (s : tie.Start) → SFits w32 (pos (nat_abs s.args.x * nat_abs s.args.t / nat_abs s.args.sum))
quotient_fits s = small longest tt (le_trans (at_most s.args.t s.args.sum s.args.x s.requires.1.up s.requires.3) s.requires.0.size)

cast-product : tie.Need-overflow_cast-product
cast-product c = unsigned (time c) c.requires.1.up tt

cast-product-2 : tie.Need-overflow_cast-product-2
cast-product-2 c = unsigned (period c) c.requires.0.up tt

mul-product : tie.Need-overflow_mul-product
mul-product c =
    rw ((time c).is, (period c).is) (record { fits = lt_of_le_of_lt (mul-le-mul (time c).size (period c).size) (lit< tt) })

cast-result : tie.Need-overflow_cast-result
cast-result c = let s = word c.ranges.sum in unsigned s (omega (arith, order, c.requires.0.up, c.requires.2)) tt

div-result : tie.Need-nonzero_div-result
div-result c = rw (word c.ranges.sum).is (omega (arith, order, c.requires.0.up, c.requires.2, abs_parts c.args.sum))

cast-result-2 : tie.Need-overflow_cast-result-2
cast-result-2 c = rw ((time c).is, (period c).is, (word c.ranges.sum).is) (quotient_fits c)

returns : tie.Need-returns
returns c =
    rw ((time c).is, (period c).is, (word c.ranges.sum).is)
    (to_z-of_z (quotient_fits c) ∙ quotient c.args.t c.args.sum c.args.x c.requires.0.up c.requires.1.up c.requires.3)

pub share_spec : {M : Type 1} → statement M
share_spec = tie.close (tie.spec cast-product cast-product-2 mul-product cast-result div-result cast-result-2 returns)
