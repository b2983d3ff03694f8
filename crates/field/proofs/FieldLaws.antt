-- What the flux model keeps: the fine flux lies between where it was and 4096·d, so that it stays within what bounds both; the slip is within
-- ±16383, and 0 without a q current; the angle is within 0..65535.
-- Assumes nothing.
use mathlib.Core.Path.{◌≡◌, refl, ◌∙◌}
use mathlib.Core.Logic.{⊎_elim}
use Prim.Native.Nat.{◌≤◌}
use native.Mathlib.Omega.{arith}
use lib.IntN.{ℤ, pos, neg_ℤ, nat_abs, ◌+ℤ◌, ◌-ℤ◌, ◌*ℤ◌, *ℤ-zero}
use lib.Signed.{◌≤ℤ◌, ◌<ℤ◌, lt_z, lt_z_yes}
use Rattle.fixed.specs.Fixed.{down, modulo, held, Between}
use Rattle.fixed.proofs.Parts.{order, diffs, is_diff, cond_ind}
use Rattle.fixed.proofs.Ring.{<-or-≤, *-nonneg, gap_up, gap_down}
use Rattle.fixed.proofs.Between.{between_size, moved_between}
use Rattle.fixed.proofs.Size.{abs-*≤}
use Rattle.fixed.proofs.DownLaws.{down_zero, modulo_lo, modulo_hi}
use Rattle.fixed.proofs.HeldLaws.{held_size, if-less, if-not-less}
use Rattle.field.specs.declared.Field.{Field}
use Rattle.field.specs.Field.{fine_next, flux_of, slip, angle_next, followed, fine_end, flux_end, slip_end}

-- 0 ≤ k ≤ 4096: k·g lies between 0 and 4096·g, so less than 4096 past either
below_gap : (k g : ℤ) → pos 0 ≤ℤ ((pos 4096 -ℤ k) *ℤ g) → (k *ℤ g) <ℤ (pos 4096 *ℤ (g +ℤ pos 1))
below_gap k g = rw (is_diff k, is_diff g) (simp diffs (omega arith))

above_gap : (k g : ℤ) → pos 0 ≤ℤ ((pos 4096 -ℤ k) *ℤ neg_ℤ g) → (pos 4096 *ℤ g) ≤ℤ (k *ℤ g)
above_gap k g = rw (is_diff k, is_diff g) (simp diffs (omega arith))

below_zero : (k g : ℤ) → pos 0 ≤ℤ (k *ℤ neg_ℤ g) → (k *ℤ g) <ℤ pos 4096
below_zero k g = rw (is_diff k, is_diff g) (simp diffs (omega arith))

pub fine_between : (kr fine d : ℤ) → pos 0 ≤ℤ kr → kr ≤ℤ pos 4096 → Between fine (fine_next kr fine d) (pos 4096 *ℤ d)
unfolding fine_next
fine_between kr fine d k0 k1 =
    let o = pos 4096 *ℤ d in
    let g = o -ℤ fine in
    moved_between (pos 4096) fine o (kr *ℤ g) (lt_z_yes tt)
    (λ h. (*-nonneg k0 (gap_up fine o h), below_gap kr g (*-nonneg (gap_up kr (pos 4096) k1) (gap_up fine o h))))
    (λ h. (above_gap kr g (*-nonneg (gap_up kr (pos 4096) k1) (gap_down o fine h)), below_zero kr g (*-nonneg k0 (gap_down o fine h))))

-- so it stays within ±81920000, as 4096·d does
pub fine_size : (kr fine d : ℤ) → pos 0 ≤ℤ kr → kr ≤ℤ pos 4096 → nat_abs fine ≤ fine_end → nat_abs d ≤ flux_end → nat_abs (fine_next kr fine d) ≤ fine_end
fine_size kr fine d k0 k1 h k = between_size fine_end (fine_between kr fine d k0 k1) h (abs-*≤ 4096 flux_end (pos 4096) d (omega arith) k)

-- below 41 the slip is 0, from 41 on it is the quotient
pub slip_none : (kt flux q : ℤ) → flux <ℤ pos 41 → slip kt flux q ≡ pos 0
unfolding slip
slip_none kt flux q h = if-less flux (pos 41) _ _ h

pub slip_some : (kt flux q : ℤ) → pos 41 ≤ℤ flux → slip kt flux q ≡ held (down (kt *ℤ q) flux) (neg_ℤ (pos slip_end)) (pos slip_end)
unfolding slip
slip_some kt flux q h = if-not-less flux (pos 41) _ _ h

pub slip_size : (kt flux q : ℤ) → nat_abs (slip kt flux q) ≤ slip_end
unfolding slip
slip_size kt flux q = cond_ind (lt_z flux (pos 41)) _ _ (λ z. nat_abs z ≤ slip_end) (λ t. omega arith) (λ t. held_size (down (kt *ℤ q) flux) slip_end)

-- without a q current there is none
pub no_slip : (kt flux : ℤ) → slip kt flux (pos 0) ≡ pos 0
unfolding held
no_slip kt flux = ⊎_elim (λ h. slip_none kt flux (pos 0) h) (λ h. slip_some kt flux (pos 0) h ∙ quotient h) (<-or-≤ flux (pos 41))
  where
    quotient : pos 41 ≤ℤ flux → held (down (kt *ℤ pos 0) flux) (neg_ℤ (pos slip_end)) (pos slip_end) ≡ pos 0
    quotient h = rw (*ℤ-zero kt, down_zero flux (omega (arith, order, h))) refl

-- so at angle 0, without it and without speed, the angle stays 0
pub stands : (kr kt kth : ℤ) (f : Field) (d : ℤ) → f.angle ≡ pos 0 → (followed kr kt kth f d (pos 0) (pos 0)).angle ≡ pos 0
unfolding followed angle_next modulo down
stands kr kt kth f d e = rw (e, no_slip kt (flux_of (fine_next kr f.fine d)), *ℤ-zero kth) refl

pub angle_lo : (kth angle w : ℤ) → pos 0 ≤ℤ angle_next kth angle w
unfolding angle_next
angle_lo kth angle w = modulo_lo _ (pos 65536) (lt_z_yes tt)

pub angle_hi : (kth angle w : ℤ) → angle_next kth angle w ≤ℤ pos 65535
unfolding angle_next
angle_hi kth angle w = omega (arith, order, modulo_hi (angle +ℤ down (kth *ℤ w) (pos 4096)) (pos 65536) (lt_z_yes tt))
