-- How large what the frames give can be. A component of a turned vector is at most the sum of the two it is made of, since no sine or
-- cosine is above 1.0; so one law serves Park and inverse Park.
-- Assumes nothing.
use mathlib.Core.Path.{◌≡◌}
use Prim.Native.Nat.{ℕ, ◌+◌, ◌≤◌}
use native.Mathlib.Omega.{arith}
use lib.IntN.{ℤ, pos, nat_abs, ◌+ℤ◌, ◌-ℤ◌, ◌*ℤ◌}
use Rattle.fixed.specs.Fixed.{down}
use Rattle.fixed.proofs.Parts.{diffs, is_diff}
use Rattle.fixed.proofs.Size.{abs-+, abs--, abs-*, abs-*≤}
use Rattle.fixed.proofs.DownLaws.{down_within, down_size}
use Rattle.frames.specs.declared.Stator.{Stator}
use Rattle.frames.specs.declared.Rotor.{Rotor}
use Rattle.frames.specs.Frames.{clarke, park, inverse_park, sample_end, beta_end, rotor_end}

-- the sum and the difference of two products with a sine and a cosine
module _ (i j : ℕ) (a b s c : ℤ) (ha : nat_abs a ≤ i) (hb : nat_abs b ≤ j) (hs : nat_abs s ≤ 4096) (hc : nat_abs c ≤ 4096) where
  sum_size : nat_abs (down (a *ℤ s +ℤ b *ℤ c) (pos 4096)) ≤ i + j
  sum_size = down_within (a *ℤ s +ℤ b *ℤ c) 4096 (i + j) tt (omega (arith, abs-+ (a *ℤ s) (b *ℤ c), abs-*≤ i 4096 a s ha hs, abs-*≤ j 4096 b c hb hc))

  difference_size : nat_abs (down (a *ℤ s -ℤ b *ℤ c) (pos 4096)) ≤ i + j
  difference_size = down_within (a *ℤ s -ℤ b *ℤ c) 4096 (i + j) tt (omega (arith, abs-- (a *ℤ s) (b *ℤ c), abs-*≤ i 4096 a s ha hs, abs-*≤ j 4096 b c hb hc))

-- α and β of accepted samples
pub alpha_size : (ia ib : ℤ) → nat_abs ia ≤ sample_end → nat_abs (clarke ia ib).alpha ≤ sample_end
unfolding clarke
alpha_size ia ib h = h

pub beta_size : (ia ib : ℤ) → nat_abs ib ≤ sample_end → nat_abs (ia +ℤ ib) ≤ sample_end → nat_abs (clarke ia ib).beta ≤ beta_end
unfolding clarke
beta_size ia ib h k = down_size _ 4096 38743430 tt (omega (arith, abs-* (pos 2 *ℤ ib +ℤ ia) (pos 2365), twice))
  where
    apart : (ia ib : ℤ) → pos 2 *ℤ ib +ℤ ia ≡ ib +ℤ (ia +ℤ ib)
    apart ia ib = rw (is_diff ia, is_diff ib) (simp diffs (omega arith))

    twice : nat_abs (pos 2 *ℤ ib +ℤ ia) ≤ 16382
    twice = rw (apart ia ib) (omega (arith, abs-+ ib (ia +ℤ ib)))

-- Park and inverse Park of components of sizes at most i and j
module _ (i j : ℕ) (sin cos : ℤ) (hs : nat_abs sin ≤ 4096) (hc : nat_abs cos ≤ 4096) where
  pub d_size : (v : Stator) → nat_abs v.alpha ≤ i → nat_abs v.beta ≤ j → nat_abs (park v sin cos).d ≤ i + j
  unfolding park
  d_size v h k = sum_size i j v.alpha v.beta cos sin h k hc hs

  pub q_size : (v : Stator) → nat_abs v.alpha ≤ i → nat_abs v.beta ≤ j → nat_abs (park v sin cos).q ≤ j + i
  unfolding park
  q_size v h k = difference_size j i v.beta v.alpha cos sin k h hc hs

  pub back_alpha_size : (v : Rotor) → nat_abs v.d ≤ i → nat_abs v.q ≤ j → nat_abs (inverse_park v sin cos).alpha ≤ i + j
  unfolding inverse_park
  back_alpha_size v h k = difference_size i j v.d v.q cos sin h k hc hs

  pub back_beta_size : (v : Rotor) → nat_abs v.d ≤ i → nat_abs v.q ≤ j → nat_abs (inverse_park v sin cos).beta ≤ j + i
  unfolding inverse_park
  back_beta_size v h k = sum_size j i v.q v.d cos sin k h hc hs

-- d and q of accepted samples
pub rotor_size : (ia ib sin cos : ℤ) → nat_abs ia ≤ sample_end → nat_abs ib ≤ sample_end → nat_abs (ia +ℤ ib) ≤ sample_end
    → nat_abs sin ≤ 4096 → nat_abs cos ≤ 4096 → (nat_abs (park (clarke ia ib) sin cos).d ≤ rotor_end) × (nat_abs (park (clarke ia ib) sin cos).q ≤ rotor_end)
rotor_size ia ib sin cos a b e hs hc =
    let h = alpha_size ia ib a in
    let k = beta_size ia ib b e in
    (d_size sample_end beta_end sin cos hs hc (clarke ia ib) h k, q_size sample_end beta_end sin cos hs hc (clarke ia ib) h k)
