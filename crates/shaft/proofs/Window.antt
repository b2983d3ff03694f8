-- The window of rule 2: a movement is a signed 16-bit number whatever the two counts are, so that the sum of a window stays
-- within ±32768 times its steps; a step that is no 30th leaves at most 29 of them; the speed of a window is held to ±16383.
-- Assumes nothing.
use Rattle.std.proofs.Common.{◌≡◌, suc, ◌*◌, ◌≤◌, true, false, T, ◌↔◌, ℤ, pos, negsuc, ◌+ℤ◌, ◌-ℤ◌, ◌*ℤ◌, neg_ℤ, nat_abs, ◌≤ℤ◌, ◌<ℤ◌, sym, ap, ◌∙◌, subst}
use Rattle.std.proofs.Common.{⊎_elim, eq-or-lt_of_le, arith}
use lib.Signed.{lt_z, lt_z_yes, lt_z_no, pos-nat_abs, yes_non_neg}
use Rattle.fixed.specs.Fixed.{down, modulo}
use Rattle.fixed.proofs.Parts.{cond_ind, order, parts-+, parts--}
use Rattle.fixed.proofs.Size.{abs-+, abs←}
use Rattle.fixed.proofs.DownLaws.{modulo_lo, modulo_hi}
use Rattle.fixed.proofs.HeldLaws.{held_size, equal_is}
use Rattle.shaft.specs.declared.Shaft.{Shaft}
use Rattle.shaft.specs.Shaft.{signed16, movement, moved, counted, thirtieth, speed_of, fastest}

-- ════ one movement
signed_cases : (Q : ℤ → Type 0) (m : ℤ) → (m <ℤ pos 32768 → Q m) → (pos 32768 ≤ℤ m → Q (m -ℤ pos 65536)) → Q (signed16 m)
unfolding signed16
signed_cases Q m f g = cond_ind (lt_z m (pos 32768)) m (m -ℤ pos 65536) Q (λ t. f (lt_z_yes t)) (λ t. g (lt_z_no {a = m} t))

pub movement_lo : (count previous : ℤ) → neg_ℤ (pos 32768) ≤ℤ movement count previous
unfolding movement
movement_lo count previous =
    let m = modulo (count -ℤ previous) (pos 65536) in
    let l = modulo_lo (count -ℤ previous) (pos 65536) (lt_z_yes tt) in
    signed_cases (λ z. neg_ℤ (pos 32768) ≤ℤ z) m (λ h. omega (arith, order, l)) (λ h. omega (arith, order, parts-- m (pos 65536)))

pub movement_hi : (count previous : ℤ) → movement count previous ≤ℤ pos 32767
unfolding movement
movement_hi count previous =
    let m = modulo (count -ℤ previous) (pos 65536) in
    let u = modulo_hi (count -ℤ previous) (pos 65536) (lt_z_yes tt) in
    signed_cases (λ z. z ≤ℤ pos 32767) m (λ h. omega (arith, order)) (λ h. omega (arith, order, u, parts-- m (pos 65536)))

pub movement_size : (count previous : ℤ) → nat_abs (movement count previous) ≤ 32768
movement_size count previous =
    let h = movement_hi count previous in abs← 32768 _ (movement_lo count previous) (omega (arith, order, h))

-- that of a step; the first has none
pub moved_size : (s : Shaft) (count : ℤ) → nat_abs (moved s count) ≤ 32768
unfolding moved
moved_size s count = cond_ind s.seen _ _ (λ z. nat_abs z ≤ 32768) (λ t. movement_size count s.count) (λ t. omega arith)

-- ════ the window
up_one : (n : ℤ) → pos 0 ≤ℤ n → nat_abs (n +ℤ pos 1) ≡ suc (nat_abs n)
up_one (pos n) h = omega arith
up_one (negsuc n) h = absurd h.le

pub steps_next : (s : Shaft) (count : ℤ) → pos 0 ≤ℤ s.steps → nat_abs (counted s count).steps ≡ suc (nat_abs s.steps)
unfolding counted
steps_next s count h = up_one s.steps h

pub steps_lo : (s : Shaft) (count : ℤ) → pos 0 ≤ℤ s.steps → pos 0 ≤ℤ (counted s count).steps
unfolding counted
steps_lo s count h = omega (arith, order, parts-+ s.steps (pos 1))

pub sum_next : (s : Shaft) (count : ℤ) → pos 0 ≤ℤ s.steps → nat_abs s.sum ≤ 32768 * nat_abs s.steps
    → nat_abs (counted s count).sum ≤ 32768 * nat_abs (counted s count).steps
unfolding counted
sum_next s count h k =
    omega (arith, k, up_one s.steps h, abs-+ s.sum (moved s count), moved_size s count)

-- a 30th step is one with 29 before it, and any other leaves room in the window
pub thirtieth_at : (s : Shaft) → (thirtieth s ≡ true) ↔ (s.steps ≡ pos 29)
unfolding thirtieth
thirtieth_at s = equal_is (pos 29) s.steps

pub steps_room : (s : Shaft) (count : ℤ) → pos 0 ≤ℤ s.steps → nat_abs s.steps ≤ 29 → thirtieth s ≡ false → nat_abs (counted s count).steps ≤ 29
steps_room s count h k e =
    ⊎_elim
    (λ q. absurd (subst T (sym ((thirtieth_at s).1 (sym (pos-nat_abs s.steps (yes_non_neg h)) ∙ ap pos q)) ∙ e) tt))
    (λ q. omega (arith, q, steps_next s count h))
    (eq-or-lt_of_le k)

-- ════ the speed
pub speed_size : (sum kn : ℤ) → nat_abs (speed_of sum kn) ≤ fastest
unfolding speed_of
speed_size sum kn = held_size (down (sum *ℤ kn) (pos 256)) fastest
