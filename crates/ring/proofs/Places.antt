-- The numbers of a ring: whatever the counts and whatever row is asked for, a place is one of the 128, and the counts that a row leaves are read as they
-- stand.
-- Assumes nothing.
use mathlib.Core.Path.{◌≡◌, refl}
use mathlib.Core.Bool.{true}
use Prim.Native.Nat.{ℕ, ◌+◌, ◌-◌, ◌*◌, ◌≤◌, ◌<◌}
use native.Mathlib.Omega.{arith}
use borrow.Author.Tests.{ltb-true, ltb-false}
use lib.Dec.{T, ltb, ltb→lt}
use lib.IntN.{ℤ, pos, negsuc, nat_abs, neg_ℤ, ◌+ℤ◌, ◌-ℤ◌, ◌*ℤ◌}
use lib.Signed.{◌≤ℤ◌, ◌<ℤ◌, non_neg, yes_non_neg}
use Rattle.std.specs.Prelude.{None}
use Rattle.fixed.specs.Fixed.{within, modulo}
use Rattle.fixed.proofs.Parts.{diffs, order}
use Rattle.fixed.proofs.DownLaws.{modulo_unique}
use Rattle.fixed.proofs.Choice.{choose}
use Rattle.fixed.proofs.Ranges.{two}
use Rattle.fixed.proofs.HeldLaws.{and_both, within_lo, within_yes, within_size}
use Rattle.ring.specs.Ring.{in_range, place_in, rows_in, place_after, one_more, place_of_row, place_at, row_place}

-- ════ the counts
-- what the test says of each: the number that is cast is not negative, and a place or a count of the ring
pub next_read : (next real : ℤ) → in_range next real ≡ true → T (non_neg next) × (nat_abs next < 128)
unfolding in_range
next_read next real e =
    let h = (two (within (pos 0) (pos 127) next) (within (pos 0) (pos 128) real) e).0 in
    (yes_non_neg (within_lo (pos 0) (pos 127) next h), omega (arith, within_size 0 127 next h))

pub real_read : (next real : ℤ) → in_range next real ≡ true → T (non_neg real) × (nat_abs real ≤ 128)
unfolding in_range
real_read next real e =
    let h = (two (within (pos 0) (pos 127) next) (within (pos 0) (pos 128) real) e).1 in
    (yes_non_neg (within_lo (pos 0) (pos 128) real h), within_size 0 128 real h)

pub ruleset counted = (next_read, real_read)

pub place_below : (next real : ℤ) → place_in next real < 128
unfolding place_in
place_below next real =
    choose (λ (n : ℕ). n < 128) (in_range next real) (nat_abs next) 0 (λ e. (next_read next real e).1) (λ e. omega arith)

pub rows_most : (next real : ℤ) → rows_in next real ≤ 128
unfolding rows_in
rows_most next real =
    choose (λ (n : ℕ). n ≤ 128) (in_range next real) (nat_abs real) 0 (λ e. (real_read next real e).1) (λ e. omega arith)

-- ════ the counts after a row
after_below : (at : ℕ) → place_after at < 128
unfolding place_after
after_below at = choose (λ (n : ℕ). n < 128) (ltb at 127) (at + 1) 0 (λ e. omega (arith, ltb-true at 127 e)) (λ e. omega arith)

more_most : (real : ℕ) → one_more real ≤ 128
unfolding one_more
more_most real = choose (λ (n : ℕ). n ≤ 128) (ltb real 128) (real + 1) 128 (λ e. omega (arith, ltb-true real 128 e)) (λ e. omega arith)

in_range_again : (at real : ℕ) → at < 128 → real ≤ 128 → in_range (pos at) (pos real) ≡ true
unfolding in_range
in_range_again at real h k =
    and_both (within_yes (pos 0) (pos 127) (pos at) (omega (arith, order)) (omega (arith, order)))
    (within_yes (pos 0) (pos 128) (pos real) (omega (arith, order)) (omega (arith, order)))

-- they are read as they stand
pub place_again : (at real : ℕ) → place_in (pos (place_after at)) (pos (one_more real)) ≡ place_after at
unfolding place_in
place_again at real = rw (in_range_again (place_after at) (one_more real) (after_below at) (more_most real)) refl

pub rows_again : (at real : ℕ) → rows_in (pos (place_after at)) (pos (one_more real)) ≡ one_more real
unfolding rows_in
rows_again at real = rw (in_range_again (place_after at) (one_more real) (after_below at) (more_most real)) refl

-- ════ where the code looks
-- the place is that of the rules, (next − real + i) modulo 128, though no remainder is formed
pub place_modulo : (at real i : ℕ) → at < 128 → real ≤ 128 → i < real → pos (place_of_row at real i) ≡ modulo (pos at -ℤ pos real +ℤ pos i) (pos 128)
unfolding place_of_row
place_modulo at real i a r l =
    let on = at + (128 - real) + i in
    let x = pos at -ℤ pos real +ℤ pos i in
    choose (λ (n : ℕ). pos n ≡ modulo x (pos 128)) (ltb on 128) on (on - 128)
    (λ e.
    let h : on < 128 = ltb-true on 128 e in
    modulo_unique x (pos 128) (neg_ℤ (pos 1)) (pos on) (turns at real i on 1 (omega arith)) (omega (arith, order)) (omega (arith, order)))
    (λ e.
    let h : 128 ≤ on = ltb-false on 128 e in
    modulo_unique x (pos 128) (neg_ℤ (pos 0)) (pos (on - 128)) (turns at real i (on - 128) 0 (omega arith)) (omega (arith, order)) (omega (arith, order)))
  where
    turns : (at real i r t : ℕ) → r + real ≡ 128 * t + (at + i) → pos at -ℤ pos real +ℤ pos i ≡ pos 128 *ℤ neg_ℤ (pos t) +ℤ pos r
    turns at real i r t e = simp diffs (omega arith)

-- no row comes before the oldest
no_less : (n : ℕ) → T (ltb n 0) → ⊥
no_less n t = let h : n < 0 = ltb→lt n 0 t in omega arith

pub before_oldest : (next real i : ℤ) → i <ℤ pos 0 → row_place next real i ≡ None
unfolding row_place
before_oldest next real (pos i) h = absurd (no_less i h.lt)
before_oldest next real (negsuc i) h = refl

pub from_oldest : (next real i : ℤ) → pos 0 ≤ℤ i → row_place next real i ≡ place_at next real (nat_abs i)
unfolding row_place
from_oldest next real (pos i) h = refl
from_oldest next real (negsuc i) h = absurd h.le
