-- Counts, 0..65535: the difference of two in 16 bits, read as a signed number, is the movement.
-- Assumes nothing.
use Rattle.std.proofs.Common.{◌≡◌, ℕ, ◌+◌, ◌-◌, ◌*◌, ◌/◌, ◌%◌, suc, ◌<◌, ◌≤◌, ltb, ltb-false, ℤ, pos, negsuc, ◌+ℤ◌, ◌-ℤ◌, ◌*ℤ◌, neg_ℤ, nat_abs, refl, ap, ◌∙◌, arith, w16, to_z}
use native.Mathlib.Nat.{div-add-mod}
use Rattle.fixed.specs.Fixed.{modulo}
use Rattle.fixed.proofs.Parts.{diffs, order, parts--}
use Rattle.fixed.proofs.DownLaws.{modulo_unique}
use Rattle.fixed.proofs.Ranges.{in-lo, in-hi}
use Rattle.fixed.proofs.Choice.{by_test}
use Rattle.shaft.specs.Shaft.{counts, Count, signed16, movement}

signed_is : (n : ℕ) → n < 65536 → to_z w16 n ≡ signed16 (pos n)
unfolding signed16
signed_is n h = by_test (ltb n 32768) (λ e. rw e refl) (λ e. rw e (less n h (ltb-false n 32768 e)))
  where
    less : (n : ℕ) → n < 65536 → 32768 ≤ n → negsuc (65536 - suc n) ≡ pos n -ℤ pos 65536
    less n h k = omega (arith, order, parts-- (pos n) (pos 65536))

difference : (x y : ℤ) → Count x → Count y → pos ((nat_abs x + (65536 - nat_abs y)) % 65536) ≡ modulo (x -ℤ y) (pos 65536)
difference (pos a) (pos b) h k =
    let n = a + (65536 - b) in
    let t = 1 - n / 65536 in
    let e : a + 65536 * t ≡ n % 65536 + b = omega (arith, order, in-hi counts (pos a) h, in-hi counts (pos b) k, div-add-mod n 65536) in
    modulo_unique (pos a -ℤ pos b) (pos 65536) (neg_ℤ (pos t)) (pos (n % 65536)) (turns a b t (n % 65536) e) (omega (arith, order)) (omega (arith, order))
  where
    turns : (a b t r : ℕ) → a + 65536 * t ≡ r + b → pos a -ℤ pos b ≡ pos 65536 *ℤ neg_ℤ (pos t) +ℤ pos r
    turns a b t r e = simp diffs (omega arith)
difference (pos a) (negsuc b) h k = absurd (in-lo counts (negsuc b) k).le
difference (negsuc a) y h k = absurd (in-lo counts (negsuc a) h).le

pub turned : (x y : ℤ) → Count x → Count y → to_z w16 ((nat_abs x + (65536 - nat_abs y)) % 65536) ≡ movement x y
unfolding movement
turned x y h k = signed_is _ (omega arith) ∙ ap signed16 (difference x y h k)
