-- The table's rule, proved over the table as one. Each of the 256 entries is read from entries 0 to 64 by the folds: one test over all of
-- them against the ladder, which the checker computes, carried to each index by a lemma. The facts on places go likewise, and that sine and
-- cosine lie within ±4096.
-- Assumes nothing.
use mathlib.Core.Path.{◌≡◌, ap, ◌∙◌, subst}
use mathlib.Core.List.{List, [], ◌∷◌}
use mathlib.Core.Bool.{Bool, true, false, ◌&&◌, cond}
use Prim.Native.Nat.{ℕ, zero, suc, ◌+◌, ◌-◌, ◌%◌, ◌≤◌, ◌<◌}
use native.Mathlib.Nat.{le_of_suc-le-suc, not-suc-le-zero}
use native.Mathlib.Omega.{arith}
use lib.Dec.{T, eqb, eqb→eq, leb, leb→le}
use lib.IntN.{ℤ, pos, negsuc, nat_abs}
use lib.ListN.{get_or}
use Rattle.fixed.specs.Fixed.{down}
use Rattle.fixed.proofs.Choice.{by_order}
use Rattle.fixed.proofs.Parts.{order}
use Rattle.sine.specs.Sine.{sine_entry, half, rising, turned_by, turn, cos1, cos2, sin1, halved}
use Rattle.sine.specs.Sine.{root, root_from, entries_from, sine_table, kept_table, place_of, signed_at, folded_in, Angle, index_of, sine_at, cosine_at}

and_left : (a b : Bool) → T (a && b) → T a
and_left true b t = tt
and_left false b t = t

and_right : (a b : Bool) → T (a && b) → T b
and_right true b t = t
and_right false b t = absurd t

-- ════ two numbers are the same, as a test
abbrev eq_z : ℤ → ℤ → Bool
eq_z (pos a) (pos b) = eqb a b
eq_z (negsuc a) (negsuc b) = eqb a b
eq_z (pos a) (negsuc b) = false
eq_z (negsuc a) (pos b) = false

eq_z→eq : (a b : ℤ) → T (eq_z a b) → a ≡ b
eq_z→eq (pos a) (pos b) t = ap pos (eqb→eq a b t)
eq_z→eq (negsuc a) (negsuc b) t = ap negsuc (eqb→eq a b t)
eq_z→eq (pos a) (negsuc b) t = absurd t
eq_z→eq (negsuc a) (pos b) t = absurd t

-- ════ a test of every number below n, and what it says of one of them
abbrev below : (ℕ → Bool) → ℕ → Bool
below f zero = true
below f (suc n) = f n && below f n

below_at : (f : ℕ → Bool) (n k : ℕ) → T (below f n) → k < n → T (f k)
below_at f zero k t h = absurd (not-suc-le-zero h)
below_at f (suc n) k t h = by_order k n (λ l. below_at f n k (and_right (f n) (below f n) t) l) (λ l. last l)
  where
    last : n ≤ k → T (f k)
    last l = subst (λ (j : ℕ). T (f j)) (omega arith) (and_left (f n) (below f n) t)

-- ════ each entry of the table is the ladder's
from_at : (j n k : ℕ) → k < n → get_or (entries_from j n) k (pos 0) ≡ sine_entry (j + k)
unfolding entries_from
from_at j zero k h = absurd (not-suc-le-zero h)
from_at j (suc n) zero h = ap sine_entry (omega arith)
from_at j (suc n) (suc k) h = from_at (suc j) n k (le_of_suc-le-suc h) ∙ ap sine_entry (omega arith)

pub entry_at : (k : ℕ) → k < 256 → get_or sine_table k (pos 0) ≡ sine_entry k
unfolding sine_table
entry_at k h = from_at 0 256 k h ∙ ap sine_entry (omega arith)

-- ════ the folds: each of the 256 entries is read from entries 0 to 64, by one test over all of them
abbrev folded : ℕ → Bool
folded k = eq_z (folded_in kept_table k) (sine_entry k)

all_folded : T (below folded 256)
unfolding folded_in signed_at place_of kept_table entries_from sine_entry half rising turned_by turn cos1 cos2 sin1 halved root root_from down
all_folded = tt

pub folded_is : (k : ℕ) → k < 256 → folded_in kept_table k ≡ sine_entry k
folded_is k h = eq_z→eq (folded_in kept_table k) (sine_entry k) (below_at folded 256 k all_folded h)

abbrev among_kept : ℕ → Bool
among_kept k = leb (place_of k) 64

all_among_kept : T (below among_kept 256)
unfolding place_of
all_among_kept = tt

pub place_within : (k : ℕ) → k < 256 → place_of k ≤ 64
place_within k h = leb→le (place_of k) 64 (below_at among_kept 256 k all_among_kept h)

-- both halves are folded alike
abbrev pub place_in_half : ℕ → ℕ
place_in_half h = cond (leb h 64) h (128 - h)

abbrev alike : ℕ → Bool
alike k = eqb (place_in_half (k % 128)) (place_of k)

all_alike : T (below alike 256)
unfolding place_of
all_alike = tt

pub place_in_half_lem : (k : ℕ) → k < 256 → place_in_half (k % 128) ≡ place_of k
place_in_half_lem k h = eqb→eq (place_in_half (k % 128)) (place_of k) (below_at alike 256 k all_alike h)

-- an entry a quarter on stands as far from the end as this one from the beginning
abbrev opposite : ℕ → Bool
opposite k = eqb (place_of ((k + 64) % 256)) (64 - place_of k)

all_opposite : T (below opposite 256)
unfolding place_of
all_opposite = tt

pub place_ahead : (k : ℕ) → k < 256 → place_of ((k + 64) % 256) ≡ 64 - place_of k
place_ahead k h = eqb→eq (place_of ((k + 64) % 256)) (64 - place_of k) (below_at opposite 256 k all_opposite h)

-- ════ within ±4096
abbrev all : (ℤ → Bool) → List ℤ → Bool
all f [] = true
all f (z ∷ zs) = f z && all f zs

all_at : (f : ℤ → Bool) (zs : List ℤ) (k : ℕ) → T (f (pos 0)) → T (all f zs) → T (f (get_or zs k (pos 0)))
all_at f [] k none t = none
all_at f (z ∷ zs) zero none t = and_left (f z) (all f zs) t
all_at f (z ∷ zs) (suc k) none t = all_at f zs k none (and_right (f z) (all f zs) t)

abbrev inside : ℤ → Bool
inside z = leb (nat_abs z) 4096

table_inside : T (all inside sine_table)
unfolding sine_table entries_from sine_entry half rising turned_by turn cos1 cos2 sin1 halved root root_from down
table_inside = tt

entry_size : (k : ℕ) → nat_abs (get_or sine_table k (pos 0)) ≤ 4096
entry_size k = leb→le (nat_abs (get_or sine_table k (pos 0))) 4096 (all_at inside sine_table k tt table_inside)

-- what is kept is besides not negative
abbrev kept : ℤ → Bool
kept z = inside z && eq_z z (pos (nat_abs z))

all_kept : T (all kept kept_table)
unfolding kept_table entries_from sine_entry half rising turned_by turn cos1 cos2 sin1 halved root root_from down
all_kept = tt

kept_at : (i : ℕ) → T (kept (get_or kept_table i (pos 0)))
kept_at i = all_at kept kept_table i tt all_kept

pub kept_size : (i : ℕ) → nat_abs (get_or kept_table i (pos 0)) ≤ 4096
kept_size i = let z = get_or kept_table i (pos 0) in leb→le (nat_abs z) 4096 (and_left (inside z) (eq_z z (pos (nat_abs z))) (kept_at i))

pub kept_natural : (i : ℕ) → get_or kept_table i (pos 0) ≡ pos (nat_abs (get_or kept_table i (pos 0)))
kept_natural i = let z = get_or kept_table i (pos 0) in eq_z→eq z (pos (nat_abs z)) (and_right (inside z) (eq_z z (pos (nat_abs z))) (kept_at i))

-- ════ what stands above this crate needs of the two readings
pub index_below : (a : ℤ) → Angle a → index_of a < 256
unfolding index_of down
index_below (pos n) h = omega (arith, order, h.hi)
index_below (negsuc n) h = absurd h.lo.le

-- an angle's sine is the ladder's entry at its index, its cosine the entry a quarter on
pub sine_entry_lem : (a : ℤ) → Angle a → sine_at a ≡ sine_entry (index_of a)
unfolding sine_at
sine_entry_lem a h = entry_at (index_of a) (index_below a h)

pub cosine_entry : (a : ℤ) → Angle a → cosine_at a ≡ sine_entry ((index_of a + 64) % 256)
unfolding cosine_at
cosine_entry a h = entry_at ((index_of a + 64) % 256) (omega arith)

pub sine_size : (a : ℤ) → nat_abs (sine_at a) ≤ 4096
unfolding sine_at
sine_size a = entry_size (index_of a)

pub cosine_size : (a : ℤ) → nat_abs (cosine_at a) ≤ 4096
unfolding cosine_at
cosine_size a = entry_size ((index_of a + 64) % 256)
