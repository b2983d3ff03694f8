-- The encoder, ramp and weakening at written numbers; the checker computes each.
-- Assumes nothing.
use Rattle.std.proofs.Common.{◌≡◌, false, ℤ, pos, neg_ℤ, refl}
use Rattle.fixed.specs.Fixed.{down, modulo, held}
use Rattle.shaft.specs.Shaft.{signed16, movement, moved, ramped_to, ramped, size_of, weakened}

-- ════ round the end of the counter
one_up : movement (pos 0) (pos 65535) ≡ pos 1
unfolding movement signed16 modulo down
one_up = refl

one_down : movement (pos 65535) (pos 0) ≡ neg_ℤ (pos 1)
unfolding movement signed16 modulo down
one_down = refl

-- half a turn is negative
half_turn : movement (pos 32768) (pos 0) ≡ neg_ℤ (pos 32768)
unfolding movement signed16 modulo down
half_turn = refl

most : movement (pos 32767) (pos 0) ≡ pos 32767
unfolding movement signed16 modulo down
most = refl

-- no count seen yet: there is no movement, whatever is stored
first : (c : ℤ) → moved (record { count = pos 7; seen = false; sum = pos 0; steps = pos 0; speed = pos 0 }) c ≡ pos 0
unfolding moved
first c = refl

-- ════ weakening of the bench's flux
at_one : weakened (pos 2458) (pos 4096) ≡ pos 2458
unfolding weakened size_of down
at_one = refl

just_above : weakened (pos 2458) (pos 4097) ≡ pos 2457
unfolding weakened size_of down
just_above = refl

twice : weakened (pos 2458) (pos 8192) ≡ pos 1229
unfolding weakened size_of down
twice = refl

twice_back : weakened (pos 2458) (neg_ℤ (pos 8192)) ≡ pos 1229
unfolding weakened size_of down
twice_back = refl

-- ════ ramp from 0 to 100 by 41
ramp_first : ramped 1 (pos 0) (pos 100) (pos 41) ≡ pos 41
unfolding ramped ramped_to held
ramp_first = refl

ramp_second : ramped 2 (pos 0) (pos 100) (pos 41) ≡ pos 82
unfolding ramped ramped_to held
ramp_second = refl

ramp_onto : ramped 3 (pos 0) (pos 100) (pos 41) ≡ pos 100
unfolding ramped ramped_to held
ramp_onto = refl

ramp_lands : ramped_to (pos 59) (pos 100) (pos 41) ≡ pos 100
unfolding ramped_to held
ramp_lands = refl
