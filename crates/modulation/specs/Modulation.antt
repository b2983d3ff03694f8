-- Space-vector modulation, as docs/RULES.md, "Modulation", has it: from a voltage (vα, vβ) and a period T to three compares.
use Rattle.std.specs.Prelude.{◌≡◌, ℕ, ◌+◌, ◌*◌, ◌≤◌, ◌<◌, true, false, cond, List, [], ◌∷◌, ◌⊎◌, ℤ, pos, neg_ℤ, nat_abs, ◌+ℤ◌, ◌-ℤ◌, ◌*ℤ◌, get_or}
use Rattle.std.specs.Prelude.{◌≤ℤ◌, ◌<ℤ◌}
use Rattle.std.specs.Int.Signed.{lt_z}
use Rattle.fixed.specs.Fixed.{down}
use Rattle.modulation.specs.declared.Entries.{Entries}
use Rattle.modulation.specs.declared.Turn.{Turn}
use Rattle.modulation.specs.declared.Turn.TheVariants.{First, Second, Third}
use Rattle.modulation.specs.declared.Sector.{Sector}
use Rattle.modulation.specs.declared.Times.{Times}
use Rattle.modulation.specs.declared.Pulses.{Pulses}

-- the longest period that the code takes, whatever range the settings have, and the largest size that an entry of the table can have:
-- |A + B| for |vα|, |vβ| ≤ 8192
abbrev pub longest : ℕ
longest = 32767

abbrev pub entry_end : ℕ
entry_end = 45834240

-- A = 3547·vα, B = 2048·vβ
abbrev pub A : ℤ → ℤ
A va = pos 3547 *ℤ va

abbrev pub B : ℤ → ℤ
B vb = pos 2048 *ℤ vb

-- X = 2B, Y = A + B, Z = B − A
unfoldable pub entries_of : ℤ → ℤ → Entries
entries_of va vb = record { x = pos 2 *ℤ B vb; y = A va +ℤ B vb; z = B vb -ℤ A va }

-- w where v > 0
unfoldable pub bit : ℤ → ℕ → ℕ
bit v w = cond (lt_z (pos 0) v) w 0

-- N = (1 if X > 0) + (2 if −Z > 0) + (4 if −Y > 0)
unfoldable pub sector_number : Entries → ℕ
sector_number e = bit e.x 1 + bit (neg_ℤ e.z) 2 + bit (neg_ℤ e.y) 4

-- a row of the table: the entries for t1 and t2, and at which place the phases a, b and c go on
abbrev pub sector : ℤ → ℤ → Turn → Turn → Turn → Sector
sector t1 t2 a b c = record { t1 = t1; t2 = t2; a = a; b = b; c = c }

-- the order in which the phases go on, as the table's last column has it
abbrev pub a_b_c : ℤ → ℤ → Sector
a_b_c t1 t2 = sector t1 t2 First Second Third

abbrev pub b_a_c : ℤ → ℤ → Sector
b_a_c t1 t2 = sector t1 t2 Second First Third

abbrev pub a_c_b : ℤ → ℤ → Sector
a_c_b t1 t2 = sector t1 t2 First Third Second

abbrev pub c_b_a : ℤ → ℤ → Sector
c_b_a t1 t2 = sector t1 t2 Third Second First

abbrev pub b_c_a : ℤ → ℤ → Sector
b_c_a t1 t2 = sector t1 t2 Third First Second

abbrev pub c_a_b : ℤ → ℤ → Sector
c_a_b t1 t2 = sector t1 t2 Second Third First

-- the table, rows 0 to 6
abbrev pub sectors : ℤ → ℤ → ℤ → List Sector
sectors x y z =
    a_b_c (pos 0) (pos 0)
    ∷ b_a_c z y
    ∷ a_c_b y (neg_ℤ x)
    ∷ a_b_c (neg_ℤ z) x
    ∷ c_b_a (neg_ℤ x) z
    ∷ b_c_a x (neg_ℤ y)
    ∷ c_a_b (neg_ℤ y) (neg_ℤ z)
    ∷ []

-- row n; past the table, row 0 (no voltage leads there)
unfoldable pub sector_at : ℕ → Entries → Sector
sector_at n e = get_or (sectors e.x e.y e.z) n (a_b_c (pos 0) (pos 0))

unfoldable pub sector_of : Entries → Sector
sector_of e = sector_at (sector_number e) e

-- a time: T·w/2^24 down, w being the word of the table
unfoldable pub time_of : ℤ → ℤ → ℤ
time_of t e = down (t *ℤ e) (pos 16777216)

-- the share of a time x in the period, where the two times together come to s: x·T/s down
unfoldable pub share_of : ℤ → ℤ → ℤ → ℤ
share_of t s x = down (x *ℤ t) s

-- the clipping rule: both times are scaled, each with the sum as it was
unfoldable pub cut : ℤ → ℤ → ℤ → Times
cut t t1 t2 = record { t1 = share_of t (t1 +ℤ t2) t1; t2 = share_of t (t1 +ℤ t2) t2; clipped = true }

-- clipped if t1 + t2 > T
unfoldable pub clipped_times : ℤ → ℤ → ℤ → Times
clipped_times t t1 t2 = cond (lt_z t (t1 +ℤ t2)) (cut t t1 t2) (record { t1 = t1; t2 = t2; clipped = false })

unfoldable pub times_of : ℤ → Sector → Times
times_of t r = clipped_times t (time_of t r.t1) (time_of t r.t2)

-- of the phase that is on first (T − t1 − t2)/2 down, of the second t1 more, of the third t2 more again
unfoldable pub compare_at : Turn → ℤ → ℤ → ℤ → ℤ
compare_at First t t1 t2 = down (t -ℤ t1 -ℤ t2) (pos 2)
compare_at Second t t1 t2 = down (t -ℤ t1 -ℤ t2) (pos 2) +ℤ t1
compare_at Third t t1 t2 = down (t -ℤ t1 -ℤ t2) (pos 2) +ℤ t1 +ℤ t2

-- each phase takes the compare of its place
unfoldable pub placed : ℤ → Sector → Times → Pulses
placed t r h =
    record { a = compare_at r.a t h.t1 h.t2; b = compare_at r.b t h.t1 h.t2; c = compare_at r.c t h.t1 h.t2; clipped = h.clipped }

unfoldable pub modulated : ℤ → ℤ → ℤ → Pulses
modulated t va vb = placed t (sector_of (entries_of va vb)) (times_of t (sector_of (entries_of va vb)))

-- ════ what is promised of the pulses
-- a compare z within 0..T, and all three
pub record InPeriod (t z : ℤ) : Type 0 where
  pub lo : pos 0 ≤ℤ z
  pub hi : z ≤ℤ t

abbrev pub AllInPeriod : ℤ → Pulses → Type 0
AllInPeriod t p = InPeriod t p.a × InPeriod t p.b × InPeriod t p.c

-- the on-time of a phase whose compare is z
abbrev pub on : ℤ → ℤ → ℤ
on t z = t -ℤ z

-- u is less than 2 counts from t·d/2^24, in whole numbers: 2^24·u is less than 2·2^24 from t·d
pub record Near (t u d : ℤ) : Type 0 where
  pub near : nat_abs (pos 16777216 *ℤ u -ℤ t *ℤ d) < 33554432

-- the on-time differences a − b, b − c and a − c are near A − B, 2B and A + B
abbrev pub AsAsked : ℤ → ℤ → ℤ → Pulses → Type 0
AsAsked t va vb p =
    Near t (on t p.a -ℤ on t p.b) (A va -ℤ B vb)
    × Near t (on t p.b -ℤ on t p.c) (pos 2 *ℤ B vb)
    × Near t (on t p.a -ℤ on t p.c) (A va +ℤ B vb)

-- u is less than one count below x·t/s, and not above it
pub record Share (t s x u : ℤ) : Type 0 where
  pub low : (s *ℤ u) ≤ℤ (x *ℤ t)
  pub high : (x *ℤ t) <ℤ (s *ℤ u +ℤ s)

-- what clipping leaves, t1' and t2', of two times t1 and t2 that were more than T: together T or T − 1, each its share, and both in the proportion that
-- they had. In exact proportion t1'·t2 − t2'·t1 would be 0; it is within −t2..t1
pub record Scaled (t t1 t2 : ℤ) (h : Times) : Type 0 where
  pub over : t <ℤ (t1 +ℤ t2)
  pub most : (h.t1 +ℤ h.t2) ≤ℤ t
  pub least : t ≤ℤ (h.t1 +ℤ h.t2 +ℤ pos 1)
  pub one : Share t (t1 +ℤ t2) t1 h.t1
  pub two : Share t (t1 +ℤ t2) t2 h.t2
  pub proportion_lo : neg_ℤ t2 ≤ℤ (h.t1 *ℤ t2 -ℤ h.t2 *ℤ t1)
  pub proportion_hi : (h.t1 *ℤ t2 -ℤ h.t2 *ℤ t1) ≤ℤ t1

-- u is less than 2 counts from t·d/w, in whole numbers
pub record NearShare (w t u d : ℤ) : Type 0 where
  pub near : nat_abs (w *ℤ u -ℤ t *ℤ d) < 2 * nat_abs w

-- W, the sum of the row's two words
abbrev pub W : ℤ → ℤ → ℤ
W va vb = (sector_of (entries_of va vb)).t1 +ℤ (sector_of (entries_of va vb)).t2

-- w is the largest of the sizes of x, y and z
pub record Largest (w x y z : ℤ) : Type 0 where
  pub up : pos 0 ≤ℤ w
  pub x_most : nat_abs x ≤ nat_abs w
  pub y_most : nat_abs y ≤ nat_abs w
  pub z_most : nat_abs z ≤ nat_abs w
  pub one_of_them : (nat_abs w ≡ nat_abs x) ⊎ ((nat_abs w ≡ nat_abs y) ⊎ (nat_abs w ≡ nat_abs z))

-- clipped, the voltage is shortened and not turned: the times of the pulses are those asked for, scaled; and the on-time differences a − b, b − c and a − c
-- are near A − B, 2B and A + B, each times T/W, W being the largest of the three
pub record Shortened (t va vb : ℤ) (p : Pulses) : Type 0 where
  pub whole : Largest (W va vb) (A va -ℤ B vb) (pos 2 *ℤ B vb) (A va +ℤ B vb)
  pub times : let r = sector_of (entries_of va vb) in (p ≡ placed t r (times_of t r)) × Scaled t (time_of t r.t1) (time_of t r.t2) (times_of t r)
  pub a_b : NearShare (W va vb) t (on t p.a -ℤ on t p.b) (A va -ℤ B vb)
  pub b_c : NearShare (W va vb) t (on t p.b -ℤ on t p.c) (pos 2 *ℤ B vb)
  pub a_c : NearShare (W va vb) t (on t p.a -ℤ on t p.c) (A va +ℤ B vb)

-- ════ what the code asks of its numbers
pub record Period (t : ℤ) : Type 0 where
  pub up : pos 0 ≤ℤ t
  pub size : nat_abs t ≤ longest

pub record Small (e : Entries) : Type 0 where
  pub x : nat_abs e.x ≤ entry_end
  pub y : nat_abs e.y ≤ entry_end
  pub z : nat_abs e.z ≤ entry_end

-- a time, before clipping
pub record Time (x : ℤ) : Type 0 where
  pub up : pos 0 ≤ℤ x
  pub size : nat_abs x ≤ 100000

-- times that have room in the period: what clipping leaves
pub record Room (t : ℤ) (h : Times) : Type 0 where
  pub one : pos 0 ≤ℤ h.t1
  pub two : pos 0 ≤ℤ h.t2
  pub both : (h.t1 +ℤ h.t2) ≤ℤ t
