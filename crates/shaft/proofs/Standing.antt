-- A shaft that stands at count 0 with nothing in the sum and no speed, whether a count was seen or not: a step with the count 0 leaves it so, a tick too.
-- Assumes nothing.
use Rattle.std.proofs.Common.{◌≡◌, Bool, true, false, cond, ℤ, pos, refl}
use lib.IntN.{*ℤ_comm, *ℤ-zero}
use Rattle.fixed.specs.Fixed.{down, modulo, held}
use Rattle.shaft.specs.declared.Shaft.{Shaft}
use Rattle.shaft.specs.Shaft.{signed16, movement, moved, counted, speed_of, measured}

pub record Stands (s : Shaft) : Type 0 where
  pub count : s.count ≡ pos 0
  pub sum : s.sum ≡ pos 0
  pub speed : s.speed ≡ pos 0

unmoved_by : (s : Shaft) → s.count ≡ pos 0 → moved s (pos 0) ≡ pos 0
unfolding moved movement signed16 modulo down
unmoved_by s e = rw e (by s.seen)
  where
    by : (b : Bool) → cond b (pos 0) (pos 0) ≡ pos 0
    by true = refl
    by false = refl

pub counted_stands : (s : Shaft) → Stands s → Stands (counted s (pos 0))
unfolding counted moved
counted_stands s h = record { count = refl; sum = rw (h.sum, unmoved_by s h.count) refl; speed = h.speed }

pub measured_stands : (s : Shaft) (kn : ℤ) → Stands s → Stands (measured s kn)
unfolding measured speed_of held down
measured_stands s kn h = record { count = h.count; sum = refl; speed = rw (h.sum, *ℤ_comm (pos 0) kn, *ℤ-zero kn) refl }
