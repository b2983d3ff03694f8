-- Field weakening: the flux reference lies within 0..F, and is F itself up to speed 1.0.
-- Assumes nothing.
use Rattle.std.proofs.Common.{◌≡◌, ℕ, ◌<◌, ◌≤◌, Bool, cond, leb, ℤ, pos, negsuc, ◌+ℤ◌, ◌*ℤ◌, nat_abs, ◌≤ℤ◌, ◌<ℤ◌, ap, le_of_lt, le_trans, mul-le-mul_left, arith, le-leb}
use borrow.Author.Tests.{lt-leb}
use lib.Dec.{nleb→lt}
use lib.Signed.{≤ℤ_refl}
use Rattle.fixed.specs.Fixed.{down}
use Rattle.fixed.proofs.Parts.{cond_ind, order, parts-+, parts-*}
use Rattle.fixed.proofs.DownLaws.{le_down, down_lt, down_abs}
use Rattle.fixed.proofs.Size.{abs-*≤}
use Rattle.shaft.specs.Shaft.{size_of, weakened}

-- the two ways: up to 1.0, and above
pub weakened_slow : (f n : ℤ) → nat_abs n ≤ 4096 → weakened f n ≡ f
unfolding weakened size_of
weakened_slow f n h = ap (λ (b : Bool). cond b f (down (f *ℤ pos 4096) (pos (nat_abs n)))) (le-leb (nat_abs n) 4096 h)

pub weakened_fast : (f n : ℤ) → 4096 < nat_abs n → weakened f n ≡ down (f *ℤ pos 4096) (pos (nat_abs n))
unfolding weakened size_of
weakened_fast f n h = ap (λ (b : Bool). cond b f (down (f *ℤ pos 4096) (pos (nat_abs n)))) (lt-leb (nat_abs n) 4096 h)

weakened_cases : (Q : ℤ → Type 0) (f n : ℤ) → Q f → (4096 < nat_abs n → Q (down (f *ℤ pos 4096) (pos (nat_abs n)))) → Q (weakened f n)
unfolding weakened size_of
weakened_cases Q f n a b = cond_ind (leb (nat_abs n) 4096) f _ Q (λ t. a) (λ t. b (nleb→lt _ _ t))

some : {m : ℕ} → 4096 < m → pos 0 <ℤ pos m
some k = omega (arith, order)

pub weakened_lo : (f n : ℤ) → pos 0 ≤ℤ f → pos 0 ≤ℤ weakened f n
weakened_lo f n h =
    weakened_cases (λ z. pos 0 ≤ℤ z) f n h
    (λ k. le_down (f *ℤ pos 4096) (pos (nat_abs n)) (pos 0) (some k) (omega (arith, order, parts-* f (pos 4096))))

pub weakened_hi : (f n : ℤ) → pos 0 ≤ℤ f → weakened f n ≤ℤ f
weakened_hi f n h =
    weakened_cases (λ z. z ≤ℤ f) f n (≤ℤ_refl f)
    (λ k. omega (arith, order, down_lt (f *ℤ pos 4096) (pos (nat_abs n)) (f +ℤ pos 1) (omega (arith, order)) (room f (nat_abs n) h k), parts-+ f (pos 1)))
  where
    room : (f : ℤ) (m : ℕ) → pos 0 ≤ℤ f → 4096 < m → (f *ℤ pos 4096) <ℤ (pos m *ℤ (f +ℤ pos 1))
    room (pos a) m h k = omega (arith, order, mul-le-mul_left a (le_of_lt k))
    room (negsuc a) m h k = absurd h.le

-- of a small F, which the code does not ask to be positive, it is small
pub weakened_small : (f n : ℤ) → nat_abs f ≤ 8191 → nat_abs (weakened f n) ≤ 33550336
weakened_small f n h =
    weakened_cases (λ z. nat_abs z ≤ 33550336) f n (omega arith)
    (λ k. le_trans (down_abs (f *ℤ pos 4096) (pos (nat_abs n)) (some k)) (abs-*≤ 8191 4096 f (pos 4096) h (omega arith)))
