-- The ramp: a move takes R off the gap and never passes the target, so that after k moves the reference is at the target exactly
-- when k·R is at least the gap.
-- Assumes nothing.
use Rattle.std.proofs.Common.{◌≡◌, ℕ, zero, suc, ◌+◌, ◌-◌, ◌*◌, ◌≤◌, ◌↔◌, ℤ, pos, negsuc, ◌+ℤ◌, ◌-ℤ◌, nat_abs, ◌≤ℤ◌, ◌<ℤ◌, refl, ⊎_elim, arith}
use lib.Signed.{≤ℤ_refl}
use Rattle.fixed.specs.Fixed.{Between}
use Rattle.fixed.proofs.Parts.{P, N, order, parts-+, parts--}
use Rattle.fixed.proofs.Ring.{<-≤, <-or-≤}
use Rattle.fixed.proofs.Between.{between_size}
use Rattle.fixed.proofs.Size.{abs_parts, abs-+, abs--}
use Rattle.fixed.proofs.HeldLaws.{held_cases}
use Rattle.shaft.specs.Shaft.{ramped_to, ramped}

-- the three ways of a move: R down, R up, onto the target
pub ramp_cases : (Q : ℤ → Type 0) (reference target r : ℤ) → (target <ℤ (reference -ℤ r) → Q (reference -ℤ r))
    → ((reference +ℤ r) <ℤ target → Q (reference +ℤ r)) → ((reference -ℤ r) ≤ℤ target → target ≤ℤ (reference +ℤ r) → Q target) → Q
    (ramped_to reference target r)
unfolding ramped_to
ramp_cases Q reference target r f g h = held_cases Q target (reference -ℤ r) (reference +ℤ r) f (λ a b. g b) h

-- ════ the gap
-- |x − y| without a sign, once it is known which is greater
above : (x y : ℤ) → y ≤ℤ x → nat_abs (x -ℤ y) + P y + N x ≡ P x + N y
above x y h = omega (arith, abs_parts (x -ℤ y), parts-- x y, no_minus (x -ℤ y) (omega (arith, order, parts-- x y)))
  where
    no_minus : (z : ℤ) → pos 0 ≤ℤ z → N z ≡ 0
    no_minus (pos n) h = refl
    no_minus (negsuc n) h = absurd h.le

below : (x y : ℤ) → x ≤ℤ y → nat_abs (x -ℤ y) + P x + N y ≡ P y + N x
below x y h = omega (arith, abs_parts (x -ℤ y), parts-- x y, no_plus (x -ℤ y) (omega (arith, order, parts-- x y)))
  where
    no_plus : (z : ℤ) → z ≤ℤ pos 0 → P z ≡ 0
    no_plus (pos n) h = omega (arith, order)
    no_plus (negsuc n) h = refl

-- where the move is onto the target, the gap was no more than R
near : (x y : ℤ) (r : ℕ) → (y -ℤ pos r) ≤ℤ x → x ≤ℤ (y +ℤ pos r) → nat_abs (x -ℤ y) ≤ r
near x y r h k =
    ⊎_elim (λ a. omega (arith, order, below x y (<-≤ a), parts-- y (pos r))) (λ a. omega (arith, order, above x y a, parts-+ y (pos r))) (<-or-≤ x y)

pub gap_next : (reference target : ℤ) (r : ℕ) → nat_abs (target -ℤ ramped_to reference target (pos r)) ≡ nat_abs (target -ℤ reference) - r
gap_next reference target r =
    let less = parts-- reference (pos r) in
    let more = parts-+ reference (pos r) in
    ramp_cases (λ n. nat_abs (target -ℤ n) ≡ nat_abs (target -ℤ reference) - r) reference target (pos r)
    (λ h. omega (arith, order, less, below target (reference -ℤ pos r) (<-≤ h), below target reference (omega (arith, order, less))))
    (λ h. omega (arith, order, more, above target (reference +ℤ pos r) (<-≤ h), above target reference (omega (arith, order, more))))
    (λ h k. omega (arith, order, near target reference r h k, below target target (omega (arith, order))))

pub gap_after : (k : ℕ) (reference target : ℤ) (r : ℕ) → nat_abs (target -ℤ ramped k reference target (pos r)) ≡ nat_abs (target -ℤ reference) - k * r
unfolding ramped
gap_after zero reference target r = omega arith
gap_after (suc k) reference target r = omega (arith, gap_next (ramped k reference target (pos r)) target r, gap_after k reference target r)

no_gap : (n target : ℤ) → (n ≡ target) ↔ (nat_abs (target -ℤ n) ≡ 0)
no_gap n target =
    (λ e. omega (arith, order, e, below target n (omega (arith, order, e))), λ e. omega (arith, order, e, abs_parts (target -ℤ n), parts-- target n))

-- after gap/R moves, rounded up, and not sooner
pub reached : (k : ℕ) (reference target : ℤ) (r : ℕ) → (ramped k reference target (pos r) ≡ target) ↔ (nat_abs (target -ℤ reference) ≤ k * r)
reached k reference target r =
    let gap = gap_after k reference target r in
    let n = ramped k reference target (pos r) in
    (λ e. omega (arith, gap, (no_gap n target).0 e), λ h. (no_gap n target).1 (omega (arith, gap, h)))

-- ════ between where it was and the target
pub ramp_between : (reference target : ℤ) (r : ℕ) → Between reference (ramped_to reference target (pos r)) target
ramp_between reference target r =
    let less = parts-- reference (pos r) in
    let more = parts-+ reference (pos r) in
    ramp_cases (λ n. Between reference n target) reference target (pos r)
    (λ h. record {
      rising = λ u. (omega (arith, order, u, less), omega (arith, order, u, less));
      falling = λ d. (<-≤ h, omega (arith, order, less));
    })
    (λ h. record {
      rising = λ u. (omega (arith, order, more), <-≤ h);
      falling = λ d. (omega (arith, order, d, more), omega (arith, order, d, more));
    })
    (λ h k. record { rising = λ u. (u, ≤ℤ_refl target); falling = λ d. (≤ℤ_refl target, d) })

-- so it keeps the range of both
pub ramp_size : (b : ℕ) (reference target : ℤ) (r : ℕ) → nat_abs reference ≤ b → nat_abs target ≤ b → nat_abs (ramped_to reference target (pos r)) ≤ b
ramp_size b reference target r h k = between_size b (ramp_between reference target r) h k

-- a move from a small number to a small number is small, also by an r below zero, which the code does not refuse
pub ramp_small : (reference target r : ℤ) → nat_abs reference ≤ 8191 → nat_abs target ≤ 8191 → nat_abs r ≤ 8191
    → nat_abs (ramped_to reference target r) ≤ 16382
ramp_small reference target r h k l =
    ramp_cases (λ n. nat_abs n ≤ 16382) reference target r (λ a. omega (arith, h, l, abs-- reference r))
    (λ a. omega (arith, h, l, abs-+ reference r)) (λ a b. omega (arith, k))
