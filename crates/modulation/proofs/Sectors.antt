-- What the sectors have in common, shown once for the whole table, whichever row a voltage picks: `serves`. Neither entry of the row is
-- negative, and its places set the phases a, b and c on levels that differ by −Z, X and Y. The theorems on compares know no more of
-- the table than this. The two entries together are the largest of the three that are asked (`top_of`). With it: N is never 7, and 0 for the zero vector alone.
-- Assumes nothing.
use mathlib.Core.Path.{◌≡◌, ap, sym, ◌∙◌}
use mathlib.Core.Bool.{Bool, true, false, not, cond}
use mathlib.Core.Logic.{◌⊎◌, inl, inr}
use Prim.Native.Nat.{ℕ, ◌+◌, ◌≤◌}
use native.Mathlib.Omega.{arith}
use lib.Dec.{T}
use lib.IntN.{ℤ, pos, neg_ℤ, nat_abs, ◌+ℤ◌, ◌-ℤ◌, ◌*ℤ◌}
use lib.Signed.{◌≤ℤ◌, ◌<ℤ◌, lt_z, lt_z_yes, lt_z_no}
use Rattle.fixed.proofs.Parts.{P, N, order, parts-+, parts--, parts-*, P-neg, N-neg}
use Rattle.fixed.proofs.Size.{abs_neg}
use Rattle.modulation.specs.declared.Entries.{Entries}
use Rattle.modulation.specs.declared.Turn.{Turn}
use Rattle.modulation.specs.declared.Turn.TheVariants.{First, Second, Third}
use Rattle.modulation.specs.declared.Sector.{Sector}
use Rattle.modulation.specs.Modulation.{A, B, entries_of, bit, sector_number, sector_at, sector_of}

-- ════ what is shown of a row
-- the level of a phase that goes on at place k: by how much it is asked to be on for longer than the third, in T/2^24
abbrev pub level : Turn → Sector → ℤ
level First r = r.t1 +ℤ r.t2
level Second r = r.t2
level Third r = pos 0

pub record Serves (e : Entries) (r : Sector) : Type 0 where
  pub one : pos 0 ≤ℤ r.t1
  pub two : pos 0 ≤ℤ r.t2
  pub a_b : level r.a r -ℤ level r.b r ≡ neg_ℤ e.z
  pub b_c : level r.b r -ℤ level r.c r ≡ e.x
  pub a_c : level r.a r -ℤ level r.c r ≡ e.y

-- and of the number that picks it
record At (e : Entries) (n : ℕ) : Type 0 where
  pub serves : Serves e (sector_at n e)
  pub most : n ≤ 6
  pub none : n ≡ 0 → (e.x ≡ pos 0) × (e.y ≡ pos 0)

-- ════ in parts, for `omega`
abbrev Neg : ℤ → Type 0
Neg u = (P (neg_ℤ u) ≡ N u) × (N (neg_ℤ u) ≡ P u)

abbrev Sum : ℤ → ℤ → Type 0
Sum u v = P (u +ℤ v) + N u + N v ≡ N (u +ℤ v) + P u + P v

gap : (u v w : ℤ) → P u + N v + N w ≡ N u + P v + P w → u -ℤ v ≡ w
gap u v w h = omega (arith, order, parts-- u v)

-- X is Y + Z, the opposites of the three, and the sum of the two entries of each row, 1 to 6
record Known (x y z : ℤ) : Type 0 where
  pub all : P x + N y + N z ≡ N x + P y + P z
  pub opposites : Neg x × Neg y × Neg z
  pub rows : Sum z y × Sum y (neg_ℤ x) × Sum (neg_ℤ z) x × Sum (neg_ℤ x) z × Sum x (neg_ℤ y) × Sum (neg_ℤ y) (neg_ℤ z)

known : (x y z : ℤ) → x ≡ y +ℤ z → Known x y z
known x y z e = record {
  all = omega (arith, order, parts-+ y z);
  opposites = ((P-neg x, N-neg x), (P-neg y, N-neg y), (P-neg z, N-neg z));
  rows = (parts-+ z y, parts-+ y (neg_ℤ x), parts-+ (neg_ℤ z) x, parts-+ (neg_ℤ x) z, parts-+ x (neg_ℤ y), parts-+ (neg_ℤ y) (neg_ℤ z));
}

-- ════ the three tests of N
abbrev Side : Bool → ℤ → Type 0
Side true v = pos 0 <ℤ v
Side false v = v ≤ℤ pos 0

side : (v : ℤ) → Side (lt_z (pos 0) v) v
side v = by (lt_z (pos 0) v) (λ t. lt_z_yes t) (λ t. lt_z_no t)
  where
    by : (t : Bool) → (T t → pos 0 <ℤ v) → (T (not t) → v ≤ℤ pos 0) → Side t v
    by true f g = f tt
    by false f g = g tt

-- the row that three outcomes pick; that all three hold cannot be, since X is Y + Z
at : (e : Entries) → Known e.x e.y e.z
    → (i j k : Bool) → Side i e.x → Side j (neg_ℤ e.z) → Side k (neg_ℤ e.y) → At e (cond i 1 0 + cond j 2 0 + cond k 4 0)
unfolding sector_at
at e q false false false hx hz hy = omega (arith, gap, order)
at e q true false false hx hz hy = omega (arith, gap, order)
at e q false true false hx hz hy = omega (arith, gap, order)
at e q true true false hx hz hy = omega (arith, gap, order)
at e q false false true hx hz hy = omega (arith, gap, order)
at e q true false true hx hz hy = omega (arith, gap, order)
at e q false true true hx hz hy = omega (arith, gap, order)
at e q true true true hx hz hy = absurd (omega (arith, order))

-- the two entries of the row together are one of the three that are asked, or its opposite
abbrev pub Top : Entries → Sector → Type 0
Top e r = let w = nat_abs (r.t1 +ℤ r.t2) in (w ≡ nat_abs (neg_ℤ e.z)) ⊎ ((w ≡ nat_abs e.x) ⊎ (w ≡ nat_abs e.y))

opposite : {w : ℤ} (u : ℤ) → w ≡ neg_ℤ u → nat_abs w ≡ nat_abs u
opposite u e = ap nat_abs e ∙ abs_neg u

top : (e : Entries) → Known e.x e.y e.z
    → (i j k : Bool) → Side i e.x → Side j (neg_ℤ e.z) → Side k (neg_ℤ e.y) → Top e (sector_at (cond i 1 0 + cond j 2 0 + cond k 4 0) e)
unfolding sector_at
top e q false false false hx hz hy = let w : pos 0 +ℤ pos 0 ≡ e.x = omega (arith, order) in inr (inl (ap nat_abs w))
top e q true false false hx hz hy = let w : e.z +ℤ e.y ≡ e.x = omega (arith, order) in inr (inl (ap nat_abs w))
top e q false true false hx hz hy = let w : e.y +ℤ neg_ℤ e.x ≡ neg_ℤ e.z = omega (arith, order) in inl (ap nat_abs w)
top e q true true false hx hz hy = let w : neg_ℤ e.z +ℤ e.x ≡ e.y = omega (arith, order) in inr (inr (ap nat_abs w))
top e q false false true hx hz hy = let w : neg_ℤ e.x +ℤ e.z ≡ neg_ℤ e.y = omega (arith, order) in inr (inr (opposite e.y w))
top e q true false true hx hz hy = let w : e.x +ℤ neg_ℤ e.y ≡ e.z = omega (arith, order) in inl (ap nat_abs w ∙ sym (abs_neg e.z))
top e q false true true hx hz hy = let w : neg_ℤ e.y +ℤ neg_ℤ e.z ≡ neg_ℤ e.x = omega (arith, order) in inr (inl (opposite e.x w))
top e q true true true hx hz hy = absurd (omega (arith, order))

-- what is shown by the three tests is shown of every voltage
module _ (va vb : ℤ) where
  abbrev asked : Entries
  asked = entries_of va vb

  all_known : Known asked.x asked.y asked.z
  unfolding entries_of
  all_known = known asked.x asked.y asked.z (sum (A va) (B vb))
    where
      sum : (a b : ℤ) → pos 2 *ℤ b ≡ (a +ℤ b) +ℤ (b -ℤ a)
      sum a b = omega (arith, order, parts-* (pos 2) b, parts-+ a b, parts-- b a, parts-+ (a +ℤ b) (b -ℤ a))

  by_tests : (R : ℕ → Type 0)
      → ((i j k : Bool) → Side i asked.x → Side j (neg_ℤ asked.z) → Side k (neg_ℤ asked.y) → R (cond i 1 0 + cond j 2 0 + cond k 4 0))
      → R (sector_number asked)
  unfolding sector_number bit
  by_tests R f =
      f (lt_z (pos 0) asked.x) (lt_z (pos 0) (neg_ℤ asked.z)) (lt_z (pos 0) (neg_ℤ asked.y))
      (side asked.x)
      (side (neg_ℤ asked.z))
      (side (neg_ℤ asked.y))

chosen : (va vb : ℤ) → At (entries_of va vb) (sector_number (entries_of va vb))
chosen va vb = let e = entries_of va vb in by_tests va vb (At e) (at e (all_known va vb))

-- ════ of every voltage
pub serves : (va vb : ℤ) → Serves (entries_of va vb) (sector_of (entries_of va vb))
unfolding sector_of
serves va vb = (chosen va vb).serves

pub top_of : (va vb : ℤ) → Top (entries_of va vb) (sector_of (entries_of va vb))
unfolding sector_of
top_of va vb = let e = entries_of va vb in by_tests va vb (λ n. Top e (sector_at n e)) (top e (all_known va vb))

pub at_most_six : (va vb : ℤ) → sector_number (entries_of va vb) ≤ 6
at_most_six va vb = (chosen va vb).most

pub zero_vector : (va vb : ℤ) → sector_number (entries_of va vb) ≡ 0 → (va ≡ pos 0) × (vb ≡ pos 0)
unfolding entries_of
zero_vector va vb e =
    let h = (chosen va vb).none e in
    omega (arith, order, h, parts-* (pos 2) (B vb), parts-+ (A va) (B vb), parts-* (pos 3547) va, parts-* (pos 2048) vb)
