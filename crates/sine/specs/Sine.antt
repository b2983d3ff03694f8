-- The sine table, its two readings and what is kept of it (docs/RULES.md, rule 4 and "Sine table"). The logic has no π: the table is built by halving an angle
-- at the scale S = 2^40 and turning step by step, all whole numbers, all rounded down.
use Rattle.std.specs.Prelude.{ℕ, zero, suc, ◌+◌, ◌*◌, ◌-◌, ◌/◌, ◌%◌, ◌^◌, cond, List, [], ◌∷◌, leb, ltb, ℤ, pos, neg_ℤ, nat_abs, ◌+ℤ◌, ◌-ℤ◌, ◌*ℤ◌, get_or, ◌≤ℤ◌}
use Rattle.fixed.specs.Fixed.{down}

-- S
abbrev pub scale : ℕ
scale = 1099511627776

-- the root of n rounded down, binary digit by digit: r is found so far, k digits are to come
unfoldable pub root_from : ℕ → ℕ → ℕ → ℕ
root_from n zero r = r
root_from n (suc k) r = root_from n k (cond (leb ((r + 2 ^ k) * (r + 2 ^ k)) n) (r + 2 ^ k) r)

-- for n below 2^82
unfoldable pub root : ℕ → ℕ
root n = root_from n 41 0

-- the cosine of half the angle: the root of S·(S + cos)/2
unfoldable pub halved : ℕ → ℕ
halved c = root (scale * (scale + c) / 2)

-- from cosine 0 at index 64 by six halvings: index 2 after five of them, and index 1
unfoldable pub cos2 : ℕ
cos2 = halved (halved (halved (halved (halved 0))))

unfoldable pub cos1 : ℕ
cos1 = halved cos2

-- and, last, the sine of index 1: the root of S·(S − cos)/2, cos being that of index 2
unfoldable pub sin1 : ℕ
sin1 = root (scale * (scale - cos2) / 2)

pub record Pair : Type 0 where
  pub cos : ℤ
  pub sin : ℤ

-- one step round, each sum rounded down once
unfoldable pub turn : Pair → Pair
turn p = record {
  cos = down (p.cos *ℤ pos cos1 -ℤ p.sin *ℤ pos sin1) (pos scale);
  sin = down (p.sin *ℤ pos cos1 +ℤ p.cos *ℤ pos sin1) (pos scale);
}

-- k steps from (cos S, sin 0)
unfoldable pub turned_by : ℕ → Pair
turned_by zero = record { cos = pos scale; sin = pos 0 }
turned_by (suc k) = turn (turned_by k)

-- entries 0 to 64: (4096·sin + S/2)/S down
unfoldable pub rising : ℕ → ℤ
rising k = down (pos 4096 *ℤ (turned_by k).sin +ℤ pos (scale / 2)) (pos scale)

-- entries 0 to 128: t(128 − k) = t(k)
unfoldable pub half : ℕ → ℤ
half k = cond (leb k 64) (rising k) (rising (128 - k))

-- entries 0 to 255: t(128 + k) = −t(k)
unfoldable pub sine_entry : ℕ → ℤ
sine_entry k = cond (leb k 128) (half k) (neg_ℤ (half (k - 128)))

-- an angle, 65536 to the turn
pub record Angle (a : ℤ) : Type 0 where
  pub lo : pos 0 ≤ℤ a
  pub hi : a ≤ℤ pos 65535

-- index is angle/256 down; an angle is not negative, so `nat_abs` only turns it into a natural number
unfoldable pub index_of : ℤ → ℕ
index_of a = nat_abs (down a (pos 256))

-- n entries from entry k on, and the table
unfoldable pub entries_from : ℕ → ℕ → List ℤ
entries_from k zero = []
entries_from k (suc n) = sine_entry k ∷ entries_from (suc k) n

unfoldable pub sine_table : List ℤ
sine_table = entries_from 0 256

-- sine is the entry at the index, cosine the one at index + 64, modulo 256
unfoldable pub sine_at : ℤ → ℤ
sine_at a = get_or sine_table (index_of a) (pos 0)

unfoldable pub cosine_at : ℤ → ℤ
cosine_at a = get_or sine_table ((index_of a + 64) % 256) (pos 0)

-- entries 0 to 64, which are all that is kept
unfoldable pub kept_table : List ℤ
kept_table = entries_from 0 65

-- where among them entry k stands, k from 0 to 255: there and back in each half
unfoldable pub place_of : ℕ → ℕ
place_of k = cond (leb k 64) k (cond (ltb k 128) (128 - k) (cond (leb k 192) (k - 128) (256 - k)))

-- from 128 on the sign of what stands there is turned
unfoldable pub signed_at : ℕ → ℤ → ℤ
signed_at k z = cond (ltb k 128) z (neg_ℤ z)

-- entry k, read from entries 0 to 64
unfoldable pub folded_in : List ℤ → ℕ → ℤ
folded_in t k = signed_at k (get_or t (place_of k) (pos 0))
