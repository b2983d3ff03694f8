-- The regulator fact, once, for any lawful gains and any limit ≥ 1: the integral ends between where it was and the output, ends
-- included. So it stays within the limits, and no clamp on it is needed. And an output leaves its limit as soon as the error turns: below
-- the upper one for any negative error, above the lower one for a positive error that is worth a count.
-- Assumes nothing.
use mathlib.Core.Path.{◌≡◌, sym, ap, ◌∙◌}
use native.Mathlib.Omega.{arith}
use lib.IntN.{ℤ, pos, neg_ℤ, ◌+ℤ◌, ◌-ℤ◌, ◌*ℤ◌}
use lib.Signed.{◌≤ℤ◌, ◌<ℤ◌, lt_z_yes}
use Rattle.fixed.specs.Fixed.{down, Between}
use Rattle.fixed.proofs.Parts.{order, diffs, is_diff, parts-+, P-neg, N-neg}
use Rattle.fixed.proofs.Ring.{*-nonneg, gap_up, gap_down, *-neg_pos, *-assoc, *-left}
use Rattle.fixed.proofs.Between.{between_in, moved_between}
use Rattle.fixed.proofs.DownLaws.{down_low, down_high, le_down, down_lt}
use Rattle.fixed.proofs.HeldLaws.{held_cases, held_lo, held_hi}
use Rattle.regulator.specs.declared.Gains.{Gains}
use Rattle.regulator.specs.Regulator.{sum_of, out_of, next_of, Lawful}

-- ════ What is rounded for x' is t = v + (d − p)·k, with y = e·Kp, p its quotient rounded down, k = Kcor, d = out − x and v = e·Ki. The
-- gains are tied, so 4096·t = (y − 4096·p)·k + 4096·(d·k), and the rest y − 4096·p is within 0..4095. Each of these four lines is
-- linear in the products that are named in its hypotheses.
abbrev sum : ℤ → ℤ → ℤ → ℤ → ℤ
sum p k d v = v +ℤ (d -ℤ p) *ℤ k

module _ (y p k d v : ℤ) where
  rising_lo : pos 4096 *ℤ v ≡ y *ℤ k → pos 0 ≤ℤ ((y -ℤ pos 4096 *ℤ p) *ℤ k) → pos 0 ≤ℤ (k *ℤ d) → pos 0 ≤ℤ sum p k d v
  rising_lo = rw (is_diff y, is_diff p, is_diff k, is_diff d, is_diff v) (simp diffs (omega arith))

  rising_hi : pos 4096 *ℤ v ≡ y *ℤ k → k ≤ℤ pos 4096 → pos 0 ≤ℤ ((pos 4096 *ℤ p +ℤ pos 4095 -ℤ y) *ℤ k)
      → pos 0 ≤ℤ ((pos 4096 -ℤ k) *ℤ d) → sum p k d v <ℤ (pos 4096 *ℤ (d +ℤ pos 1))
  rising_hi = rw (is_diff y, is_diff p, is_diff k, is_diff d, is_diff v) (simp diffs (omega arith))

  falling_lo : pos 4096 *ℤ v ≡ y *ℤ k → pos 0 ≤ℤ ((y -ℤ pos 4096 *ℤ p) *ℤ k) → pos 0 ≤ℤ ((pos 4096 -ℤ k) *ℤ neg_ℤ d) → (pos 4096 *ℤ d) ≤ℤ sum p k d v
  falling_lo = rw (is_diff y, is_diff p, is_diff k, is_diff d, is_diff v) (simp diffs (omega arith))

  falling_hi : pos 4096 *ℤ v ≡ y *ℤ k → k ≤ℤ pos 4096 → pos 0 ≤ℤ ((pos 4096 *ℤ p +ℤ pos 4095 -ℤ y) *ℤ k) → pos 0 ≤ℤ (k *ℤ neg_ℤ d) → sum p k d v <ℤ pos 4096
  falling_hi = rw (is_diff y, is_diff p, is_diff k, is_diff d, is_diff v) (simp diffs (omega arith))

rest_hi : (y p : ℤ) → y <ℤ (pos 4096 *ℤ p +ℤ pos 4096) → pos 0 ≤ℤ (pos 4096 *ℤ p +ℤ pos 4095 -ℤ y)
rest_hi y p = rw (is_diff y, is_diff p) (simp diffs (omega arith))

tied_e : (e ki kp k : ℤ) → pos 4096 *ℤ ki ≡ kp *ℤ k → pos 4096 *ℤ (e *ℤ ki) ≡ (e *ℤ kp) *ℤ k
tied_e e ki kp k h = *-left (pos 4096) e ki ∙ ap (λ (z : ℤ). e *ℤ z) h ∙ sym (*-assoc e kp k)

sum_is : (x p o k v : ℤ) → v +ℤ (o -ℤ (x +ℤ p)) *ℤ k ≡ sum p k (o -ℤ x) v
sum_is x p o k v = rw (is_diff x, is_diff p, is_diff o, is_diff k, is_diff v) (simp diffs (omega arith))

-- ════ x' lies between x and o, whatever the output o is
module _ (x e kp k ki o : ℤ) (k0 : pos 0 ≤ℤ k) (k1 : k ≤ℤ pos 4096) (tied : pos 4096 *ℤ ki ≡ kp *ℤ k) where
  abbrev y : ℤ
  y = e *ℤ kp

  abbrev p : ℤ
  p = down y (pos 4096)

  abbrev d : ℤ
  d = o -ℤ x

  abbrev t : ℤ
  t = sum p k d (e *ℤ ki)

  rest_up : pos 0 ≤ℤ ((y -ℤ pos 4096 *ℤ p) *ℤ k)
  rest_up = *-nonneg (gap_up _ _ (down_low y (pos 4096) (lt_z_yes tt))) k0

  rest_down : pos 0 ≤ℤ ((pos 4096 *ℤ p +ℤ pos 4095 -ℤ y) *ℤ k)
  rest_down = *-nonneg (rest_hi y p (down_high y (pos 4096) (lt_z_yes tt))) k0

  change : ℤ
  change = down t (pos 4096)

  between : Between x (x +ℤ change) o
  unfolding change
  between =
      let Tied-by = tied_e e ki kp k tied in
      moved_between (pos 4096) x o t (lt_z_yes tt)
      (λ h. (
        rising_lo y p k d (e *ℤ ki) Tied-by rest_up (*-nonneg k0 (gap_up _ _ h)),
        rising_hi y p k d (e *ℤ ki) Tied-by k1 rest_down (*-nonneg (gap_up _ _ k1) (gap_up _ _ h)),
      ))
      (λ h. (
        falling_lo y p k d (e *ℤ ki) Tied-by rest_up (*-nonneg (gap_up _ _ k1) (gap_down _ _ h)),
        falling_hi y p k d (e *ℤ ki) Tied-by k1 rest_down (*-nonneg k0 (gap_down _ _ h)),
      ))

-- ════ the fact
module _ (x e : ℤ) (g : Gains) (limit : ℤ) (lawful : Lawful g) (l1 : pos 1 ≤ℤ limit) where
  abbrev out : ℤ
  out = out_of x e g limit

  abbrev next : ℤ
  next = next_of x e g limit

  next_is : next ≡ x +ℤ change x e g.kp g.kcor g.ki out lawful.kcor_lo lawful.kcor_hi lawful.tied
  unfolding change next_of sum_of
  next_is = rw (sum_is x (down (e *ℤ g.kp) (pos 4096)) out g.kcor (e *ℤ g.ki))

  pub next_between : Between x next out
  next_between = rw next_is (between x e g.kp g.kcor g.ki out lawful.kcor_lo lawful.kcor_hi lawful.tied)

  limits : neg_ℤ limit ≤ℤ limit
  limits = omega (arith, order, P-neg limit, N-neg limit)

  pub out_lo : neg_ℤ limit ≤ℤ out
  unfolding out_of
  out_lo = held_lo (sum_of x e g) (neg_ℤ limit) limit limits

  pub out_hi : out ≤ℤ limit
  unfolding out_of
  out_hi = held_hi (sum_of x e g) (neg_ℤ limit) limit limits

  -- within the limits it stays within the limits
  pub next_in : neg_ℤ limit ≤ℤ x → x ≤ℤ limit → (neg_ℤ limit ≤ℤ next) × (next ≤ℤ limit)
  next_in h k = between_in next_between h k out_lo out_hi

  -- a negative error: the output is below the upper limit
  pub leaves_top : x ≤ℤ limit → e <ℤ pos 0 → out <ℤ limit
  unfolding out_of sum_of
  leaves_top k h =
      let s = down (e *ℤ g.kp) (pos 4096) in
      let below : (x +ℤ s) <ℤ limit = omega (arith, order, down_lt (e *ℤ g.kp) (pos 4096) (pos 0) (lt_z_yes tt) (*-neg_pos h lawful.kp_lo), parts-+ x s) in
      held_cases (λ z. z <ℤ limit) (x +ℤ s) (neg_ℤ limit) limit (λ a. omega (arith, order, P-neg limit, N-neg limit))
      (λ a b. absurd (omega (arith, order))) (λ a b. below)

  -- an error worth a count: the output is above the lower limit
  pub leaves_bottom : neg_ℤ limit ≤ℤ x → pos 4096 ≤ℤ (e *ℤ g.kp) → neg_ℤ limit <ℤ out
  unfolding out_of sum_of
  leaves_bottom k h =
      let s = down (e *ℤ g.kp) (pos 4096) in
      let above : neg_ℤ limit <ℤ (x +ℤ s) = omega (arith, order, le_down (e *ℤ g.kp) (pos 4096) (pos 1) (lt_z_yes tt) h, parts-+ x s) in
      held_cases (λ z. neg_ℤ limit <ℤ z) (x +ℤ s) (neg_ℤ limit) limit (λ a. absurd (omega (arith, order)))
      (λ a b. omega (arith, order, P-neg limit, N-neg limit)) (λ a b. above)
