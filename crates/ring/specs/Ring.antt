-- The places of a ring of 128, by its two counts (docs/RULES.md, "The last moments"): where a row goes, what is read of a ring, and where it stands.
use Rattle.std.specs.Prelude.{ℕ, ◌+◌, ◌-◌, Bool, cond, ◌&&◌, List, ◌++◌, ltb, ℤ, pos, negsuc, nat_abs, length, take, drop, Option, Some, None}
use Rattle.fixed.specs.Fixed.{within}
use Rattle.ring.specs.declared.Counts.{Counts}
use Rattle.ring.specs.declared.Spot.{Spot}

-- ════ the two counts
-- the place of the next row is 0..127, the real rows are 0..128
unfoldable pub in_range : ℤ → ℤ → Bool
in_range next real = within (pos 0) (pos 127) next && within (pos 0) (pos 128) real

-- where either is out of range, both are read as 0
unfoldable pub place_in : ℤ → ℤ → ℕ
place_in next real = cond (in_range next real) (nat_abs next) 0

unfoldable pub rows_in : ℤ → ℤ → ℕ
rows_in next real = cond (in_range next real) (nat_abs real) 0

unfoldable pub counts_in : ℤ → ℤ → Counts
counts_in next real = record { place = place_in next real; rows = rows_in next real }

-- ════ where a row goes
-- the place after a place, which after 127 is 0; one row more, of 128 at most
unfoldable pub place_after : ℕ → ℕ
place_after at = cond (ltb at 127) (at + 1) 0

unfoldable pub one_more : ℕ → ℕ
one_more real = cond (ltb real 128) (real + 1) 128

-- a row goes to the next place, which is the oldest row's where all 128 are real; and the counts after it
unfoldable pub spot_of : ℤ → ℤ → Spot
spot_of next real = record { at = place_in next real; next = pos (place_after (place_in next real)); real = pos (one_more (rows_in next real)) }

-- ════ what is read
-- a ring from its next place on, once round: the newest is the last
abbrev pub turned : {A : Type 0} → ℕ → List A → List A
turned at xs = drop at xs ++ take at xs

-- its real rows, oldest first
unfoldable pub oldest_first : {A : Type 0} → ℕ → ℕ → List A → List A
oldest_first at real xs = drop (128 - real) (turned at xs)

-- the last 128 of a list, or all where it is shorter
unfoldable pub last128 : {A : Type 0} → List A → List A
last128 rs = drop (length rs - 128) rs

-- ════ where it stands
-- the place of the row i of the real rows, the oldest being row 0
unfoldable pub place_of_row : ℕ → ℕ → ℕ → ℕ
place_of_row at real i = cond (ltb (at + (128 - real) + i) 128) (at + (128 - real) + i) (at + (128 - real) + i - 128)

-- that place; none where there is no such row
unfoldable pub place_at : ℤ → ℤ → ℕ → Option ℕ
place_at next real i = cond (ltb i (rows_in next real)) (Some (place_of_row (place_in next real) (rows_in next real) i)) None

unfoldable pub row_place : ℤ → ℤ → ℤ → Option ℕ
row_place next real (pos i) = place_at next real i
row_place next real (negsuc i) = None
