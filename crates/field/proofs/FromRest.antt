-- The flux from rest, with Kr 75 and d 2458: computed up to where it rests. Below 4096·d it never falls, so that what lies between two computed steps is
-- between their values.
-- Assumes nothing.
use mathlib.Core.Path.{◌≡◌, refl, sym, ap, ◌∙◌, subst}
use Prim.Native.Nat.{ℕ, zero, suc, ◌+◌, ◌-◌, ◌≤◌}
use native.Mathlib.Omega.{arith}
use lib.IntN.{ℤ, pos, ◌*ℤ◌}
use lib.Signed.{◌≤ℤ◌, ◌<ℤ◌, lt_z_yes, ≤ℤ_refl}
use Rattle.fixed.specs.Fixed.{down}
use Rattle.fixed.proofs.Choice.{by_order}
use Rattle.fixed.proofs.Parts.{order}
use Rattle.fixed.proofs.Ring.{≤_trans, ≤-antisym}
use Rattle.fixed.proofs.DownLaws.{down_mono}
use Rattle.field.specs.Field.{fine_next, flux_of}
use Rattle.field.specs.Promised.{KrIn, held_for, from_rest, EndsAt2457}
use Rattle.field.proofs.Arriving.{fine_between, never_falls}

-- ════ computed: where the flux becomes 2457, and where fine comes to rest
at_422 : from_rest 422 ≡ pos 10063809
unfolding held_for fine_next down
at_422 = refl

at_423 : from_rest 423 ≡ pos 10063885
unfolding held_for fine_next down
at_423 = refl

at_687 : from_rest 687 ≡ pos 10067913
unfolding held_for fine_next down
at_687 = refl

at_688 : from_rest 688 ≡ pos 10067914
unfolding held_for fine_next down
at_688 = refl

at_rest : fine_next (pos 75) (pos 10067914) (pos 2458) ≡ pos 10067914
unfolding fine_next down
at_rest = refl

from_688 : (k : ℕ) → from_rest (k + 688) ≡ pos 10067914
unfolding held_for
from_688 zero = at_688
from_688 (suc k) =
    let e : suc (k + 688) ≡ suc k + 688 = omega arith in
    subst (λ (n : ℕ). from_rest n ≡ pos 10067914) e (ap (λ (z : ℤ). fine_next (pos 75) z (pos 2458)) (from_688 k) ∙ at_rest)

-- ════ below 4096·d it never falls
bench : KrIn (pos 75)
bench = record { lo = record { le = tt }; hi = record { le = tt } }

below_d : (n : ℕ) → from_rest n ≤ℤ (pos 4096 *ℤ pos 2458)
unfolding held_for
below_d zero = record { le = tt }
below_d (suc n) = ((fine_between (pos 75) (from_rest n) (pos 2458) bench).rising (below_d n)).1

rises : (k n : ℕ) → from_rest n ≤ℤ from_rest (k + n)
unfolding held_for
rises zero n = let e : n ≡ 0 + n = omega arith in subst (λ (m : ℕ). from_rest n ≤ℤ from_rest m) e (≤ℤ_refl (from_rest n))
rises (suc k) n =
    let e : suc (k + n) ≡ suc k + n = omega arith in
    subst (λ (m : ℕ). from_rest n ≤ℤ from_rest m) e (≤_trans (rises k n) (never_falls (pos 75) (from_rest (k + n)) (pos 2458) bench (below_d (k + n))))

-- n is so many steps behind m
later : (m n : ℕ) → m ≤ n → n ≡ (n - m) + m
later m n h = omega (arith, h)

rises_to : (m n : ℕ) → m ≤ n → from_rest m ≤ℤ from_rest n
rises_to m n h = subst (λ (k : ℕ). from_rest m ≤ℤ from_rest k) (sym (later m n h)) (rises (n - m) m)

flux_rises : (m n : ℕ) → m ≤ n → flux_of (from_rest m) ≤ℤ flux_of (from_rest n)
unfolding flux_of
flux_rises m n h = down_mono (from_rest m) (from_rest n) (pos 4096) (lt_z_yes tt) (rises_to m n h)

-- ════ so each is what it ends at exactly from a step on
rested : (n : ℕ) → 688 ≤ n → from_rest n ≡ pos 10067914
rested n h = ap from_rest (later 688 n h) ∙ from_688 (n - 688)

-- a step at which something is more than it is at step m is behind m
behind : (f : ℕ → ℤ) → ((k n : ℕ) → k ≤ n → f k ≤ℤ f n) → (m n : ℕ) → f m <ℤ f n → suc m ≤ n
behind f up m n more = by_order m n (λ h. h) (λ h. let l = up n m h in absurd (no (f m) (f n) more l))
  where
    no : (x y : ℤ) → x <ℤ y → y ≤ℤ x → ⊥
    no x y h k = omega (arith, order)

pub ends_at_2457 : EndsAt2457
unfolding flux_of down
ends_at_2457 = record {
  flux = λ n. (
    λ e. behind (λ n. flux_of (from_rest n)) flux_rises 422 n (rw (ap flux_of at_422, e) (lt_z_yes tt)),
    λ h. ≤-antisym
        (subst (λ (z : ℤ). flux_of (from_rest n) ≤ℤ z) (ap flux_of (rested (688 + n) (omega arith))) (flux_rises n (688 + n) (omega arith)))
        (subst (λ (z : ℤ). z ≤ℤ flux_of (from_rest n)) (ap flux_of at_423) (flux_rises 423 n h)),
  );
  fine = λ n. (λ e. behind from_rest rises_to 687 n (rw (at_687, e) (lt_z_yes tt)), rested n);
}
