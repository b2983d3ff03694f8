-- The words of a shaft that is in range, by name: `shaft_ok s ≡ true` exactly when `ShaftIn s`. Rules 1 and 2 keep the range, and that of the
-- references that they move.
-- Assumes nothing.
use Rattle.std.proofs.Common.{◌≡◌, ℕ, ◌*◌, ◌≤◌, true, false, ℤ, pos, negsuc, ◌*ℤ◌, nat_abs, ◌≤ℤ◌, refl, arith}
use Rattle.fixed.specs.Fixed.{within, inside, is_in}
use Rattle.fixed.proofs.Size.{abs_hi}
use Rattle.fixed.proofs.HeldLaws.{and_both, within_yes, within_abs, within_of}
use Rattle.fixed.proofs.Ranges.{In, Inside, four, in-lo, in_size}
use Rattle.shaft.specs.declared.Shaft.{Shaft}
use Rattle.shaft.specs.Shaft.{counts, window, farthest, fastest, unmoved, counted, thirtieth, measured, ramped_to, weakened, shaft_ok, Count, ShaftSized}
use Rattle.shaft.proofs.Window as law
use Rattle.shaft.proofs.Ramp.{ramp_size}
use Rattle.shaft.proofs.Weakening.{weakened_lo, weakened_hi}

pub record ShaftIn (s : Shaft) : Type 0 where
  pub count : In counts s.count
  pub steps : In window s.steps
  pub sum : Inside (pos farthest *ℤ s.steps) s.sum
  pub speed : Inside (pos fastest) s.speed

pub shaft→ : (s : Shaft) → shaft_ok s ≡ true → ShaftIn s
unfolding shaft_ok inside
shaft→ s e =
    let h = four (is_in counts s.count) (is_in window s.steps) (inside (pos farthest *ℤ s.steps) s.sum) (inside (pos fastest) s.speed) e in
    record { count = h.0; steps = h.1; sum = h.2; speed = h.3 }

pub shaft← : (s : Shaft) → ShaftIn s → shaft_ok s ≡ true
unfolding shaft_ok inside
shaft← s i = and_both (and_both (and_both i.count i.steps) i.sum) i.speed

-- ════ sizes
-- the sum of a window of n steps
sum_size : (n x : ℤ) → pos 0 ≤ℤ n → Inside (pos farthest *ℤ n) x → nat_abs x ≤ farthest * nat_abs n
sum_size (pos n) x h e = within_abs (farthest * n) x e
sum_size (negsuc n) x h e = absurd h.le

sum_inside : (n x : ℤ) → pos 0 ≤ℤ n → nat_abs x ≤ farthest * nat_abs n → Inside (pos farthest *ℤ n) x
sum_inside (pos n) x h e = within_of (farthest * n) x e
sum_inside (negsuc n) x h e = absurd h.le

pub speed_size : (s : Shaft) → ShaftIn s → nat_abs s.speed ≤ fastest
speed_size s i = within_abs fastest s.speed i.speed

pub sized : (s : Shaft) → ShaftIn s → ShaftSized s
sized s i = record {
  count = i.count;
  sum = omega (arith, sum_size s.steps s.sum (in-lo window s.steps i.steps) i.sum, in_size window s.steps i.steps);
  steps = in_size window s.steps i.steps;
}

-- ════ what keeps the range
pub unmoved_in : ShaftIn unmoved
unmoved_in = record { count = refl; steps = refl; sum = refl; speed = refl }

kept_count : (s : Shaft) (count : ℤ) → Count count → Count (counted s count).count
unfolding counted
kept_count s count c = c

kept_speed : (s : Shaft) (count : ℤ) → Inside (pos fastest) s.speed → Inside (pos fastest) (counted s count).speed
unfolding counted
kept_speed s count h = h

-- a step that is no 30th
pub counted_in : (s : Shaft) (count : ℤ) → ShaftIn s → Count count → thirtieth s ≡ false → ShaftIn (counted s count)
counted_in s count i c e =
    let lo = in-lo window s.steps i.steps in
    let room = law.steps_room s count lo (in_size window s.steps i.steps) e in
    let up = law.steps_lo s count lo in
    record {
      count = kept_count s count c;
      steps = within_yes (pos 0) (pos window.hi) (counted s count).steps up (abs_hi window.hi _ room);
      sum = sum_inside (counted s count).steps (counted s count).sum up (law.sum_next s count lo (sum_size s.steps s.sum lo i.sum));
      speed = kept_speed s count i.speed;
    }

-- a 30th
pub measured_size : (s : Shaft) (kn : ℤ) → nat_abs (measured s kn).speed ≤ fastest
unfolding measured
measured_size s kn = law.speed_size s.sum kn

pub measured_in : (s : Shaft) (count kn : ℤ) → Count count → ShaftIn (measured (counted s count) kn)
unfolding measured counted
measured_in s count kn c = record {
  count = c;
  steps = refl;
  sum = refl;
  speed = within_of fastest (measured (counted s count) kn).speed (measured_size (counted s count) kn);
}

-- the reference, moved by an R that is not negative, and the flux reference of an F that is not
pub ramped_in : (b : ℕ) (reference target r : ℤ) → pos 0 ≤ℤ r → Inside (pos b) reference → Inside (pos b) target → Inside (pos b) (ramped_to reference target r)
ramped_in b reference target (pos r) i h k = within_of b _ (ramp_size b reference target r (within_abs b reference h) (within_abs b target k))
ramped_in b reference target (negsuc r) i h k = absurd i.le

pub weakened_in : (f n : ℤ) → pos 0 ≤ℤ f → within (pos 0) f (weakened f n) ≡ true
weakened_in f n h = within_yes (pos 0) f (weakened f n) (weakened_lo f n h) (weakened_hi f n h)
