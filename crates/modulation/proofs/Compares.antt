-- The theorems on compares, for every period and every voltage: the times are not negative (`times_up`, `times_room`), the compares lie
-- within 0..T (`compares_within`), and unclipped the on_times differ by what the voltage asks, to less than 2 counts (`on_times`).
-- The table enters by `serves` alone, the clipping rule by `clipped_room` and `kept` alone.
-- Assumes nothing.
use mathlib.Core.Path.{◌≡◌, sym, ◌∙◌}
use mathlib.Core.Bool.{false}
use Prim.Native.Nat.{ℕ, ◌<◌}
use native.Mathlib.Omega.{arith}
use lib.Dec.{lit<}
use lib.IntN.{ℤ, pos, negsuc, neg_ℤ, nat_abs, ◌+ℤ◌, ◌-ℤ◌, ◌*ℤ◌}
use lib.Signed.{◌≤ℤ◌, ◌<ℤ◌, lt_z_yes}
use Rattle.fixed.specs.Fixed.{down}
use Rattle.fixed.proofs.Parts.{order, diffs, is_diff, parts-+, parts--, P-neg, N-neg}
use Rattle.fixed.proofs.Ring.{*-nonneg}
use Rattle.fixed.proofs.Size.{abs_parts}
use Rattle.fixed.proofs.DownLaws.{down_low, down_high, down_low_parts, down_high_parts, le_down}
use Rattle.modulation.specs.declared.Turn.{Turn}
use Rattle.modulation.specs.declared.Turn.TheVariants.{First, Second, Third}
use Rattle.modulation.specs.declared.Sector.{Sector}
use Rattle.modulation.specs.declared.Times.{Times}
use Rattle.modulation.specs.Modulation.{A, B, entries_of, sector_of, time_of, times_of, compare_at}
use Rattle.modulation.specs.Modulation.{placed, modulated, InPeriod, AllInPeriod, on, Near, AsAsked, Room}
use Rattle.modulation.proofs.Sectors.{level, serves}
use Rattle.modulation.proofs.Clipping.{Kept, kept, clipped_room}

-- ════ the times are not negative, and clipped they have room in the period
time_up : (t e : ℤ) → pos 0 ≤ℤ t → pos 0 ≤ℤ e → pos 0 ≤ℤ time_of t e
unfolding time_of
time_up t e h k = le_down (t *ℤ e) (pos 16777216) (pos 0) (lt_z_yes tt) (*-nonneg h k)

pub times_up : (t va vb : ℤ) → pos 0 ≤ℤ t → (pos 0 ≤ℤ time_of t (sector_of (entries_of va vb)).t1) × (pos 0 ≤ℤ time_of t (sector_of (entries_of va vb)).t2)
times_up t va vb h =
    let s = serves va vb in
    (time_up t (sector_of (entries_of va vb)).t1 h s.one, time_up t (sector_of (entries_of va vb)).t2 h s.two)

pub times_room : (t va vb : ℤ) → pos 0 ≤ℤ t → Room t (times_of t (sector_of (entries_of va vb)))
unfolding times_of
times_room t va vb h = clipped_room t _ _ h (times_up t va vb h).0 (times_up t va vb h).1

-- ════ the compares lie within 0..T
-- the first, the second and the third of them
all_within : (t : ℤ) (h : Times) → Room t h → InPeriod t (compare_at First t h.t1 h.t2)
    × InPeriod t (compare_at Second t h.t1 h.t2) × InPeriod t (compare_at Third t h.t1 h.t2)
unfolding compare_at
all_within t h r =
    let t1 = h.t1 in
    let t2 = h.t2 in
    let rest = t -ℤ t1 -ℤ t2 in
    let p = down rest (pos 2) in
    omega (
      arith,
      order,
      parts-+ t1 t2,
      parts-- t t1,
      parts-- (t -ℤ t1) t2,
      down_low_parts rest 2 (lit< tt),
      down_high_parts rest 2 (lit< tt),
      parts-+ p t1,
      parts-+ (p +ℤ t1) t2,
    )

pub compare_within : (k : Turn) (t : ℤ) (h : Times) → Room t h → InPeriod t (compare_at k t h.t1 h.t2)
unfolding compare_at
compare_within First t h r = (all_within t h r).0
compare_within Second t h r = (all_within t h r).1
compare_within Third t h r = (all_within t h r).2

pub compares_within : (t va vb : ℤ) → pos 0 ≤ℤ t → AllInPeriod t (modulated t va vb)
unfolding modulated placed
compares_within t va vb h =
    let r = sector_of (entries_of va vb) in
    let m = times_room t va vb h in
    (compare_within r.a t (times_of t r) m, compare_within r.b t (times_of t r) m, compare_within r.c t (times_of t r) m)

-- ════ unclipped, the on_times differ by what the voltage asks
abbrev pub unit : ℕ
unit = 16777216

-- s is m, or less than n below it; `Close`: less than 2 counts
abbrev pub Short : ℤ → ℤ → ℤ → Type 0
Short n m s = (s ≤ℤ m) × (m <ℤ (s +ℤ n))

abbrev Close : ℤ → ℤ → Type 0
Close m s = Short (pos 33554432) m s

-- the rounding of a time loses less than a count
time_short : (t e : ℤ) → Short (pos unit) (t *ℤ e) (pos unit *ℤ time_of t e)
unfolding time_of
time_short t e = (down_low (t *ℤ e) (pos unit) (lt_z_yes tt), down_high (t *ℤ e) (pos unit) (lt_z_yes tt))

-- so that a compare and its level together come to the same at every place, but for less than 2 counts. Here the entries of the
-- row are f and g, their times m and n, and the first compare p
sums_close : (t f g m n p : ℤ) → Short (pos unit) (t *ℤ f) (pos unit *ℤ m) → Short (pos unit) (t *ℤ g) (pos unit *ℤ n)
    → Close (pos unit *ℤ p +ℤ t *ℤ (f +ℤ g)) (pos unit *ℤ p +ℤ t *ℤ (f +ℤ g))
    × Close (pos unit *ℤ p +ℤ t *ℤ (f +ℤ g)) (pos unit *ℤ (p +ℤ m) +ℤ t *ℤ g)
    × Close (pos unit *ℤ p +ℤ t *ℤ (f +ℤ g)) (pos unit *ℤ (p +ℤ m +ℤ n) +ℤ t *ℤ pos 0)
sums_close t f g m n p =
    rw (is_diff t, is_diff f, is_diff g, is_diff m, is_diff n, is_diff p) (simp diffs (omega arith))

abbrev sum : Turn → ℤ → Sector → ℤ
sum k t r = pos unit *ℤ compare_at k t (time_of t r.t1) (time_of t r.t2) +ℤ t *ℤ level k r

sum_close : (k : Turn) (t : ℤ) (r : Sector) → Close (sum First t r) (sum k t r)
unfolding compare_at
sum_close k t r = at k
  where
    all : Close (sum First t r) (sum First t r) × Close (sum First t r) (sum Second t r) × Close (sum First t r) (sum Third t r)
    all = sums_close t r.t1 r.t2 _ _ (compare_at First t (time_of t r.t1) (time_of t r.t2)) (time_short t r.t1) (time_short t r.t2)

    at : (k : Turn) → Close (sum First t r) (sum k t r)
    at First = all.0
    at Second = all.1
    at Third = all.2

-- two compares c and d with the levels l and m, whose sums are less than n below the same: then w times the difference of the on_times is less than n
-- from t·(l − m)
pub apart : (w n t c d l m top : ℤ) → Short n top (w *ℤ c +ℤ t *ℤ l) → Short n top (w *ℤ d +ℤ t *ℤ m)
    → (neg_ℤ n <ℤ (w *ℤ (on t c -ℤ on t d) -ℤ t *ℤ (l -ℤ m))) × ((w *ℤ (on t c -ℤ on t d) -ℤ t *ℤ (l -ℤ m)) <ℤ n)
apart w n t c d l m top =
    rw (is_diff w, is_diff n, is_diff t, is_diff c, is_diff d, is_diff l, is_diff m, is_diff top) (simp diffs (omega arith))

pub abs_under : (n z : ℤ) → neg_ℤ n <ℤ z → z <ℤ n → nat_abs z < nat_abs n
abs_under n (pos k) l h = omega (arith, order, abs_parts n)
abs_under n (negsuc k) l h = omega (arith, order, abs_parts n, P-neg n, N-neg n)

-- any two places, of times that are not clipped
pair : (t : ℤ) (r : Sector) (h : Times) (i j : Turn) {d : ℤ} → Kept t (time_of t r.t1) (time_of t r.t2) h → level i r -ℤ level j r ≡ d
    → Near t (on t (compare_at i t h.t1 h.t2) -ℤ on t (compare_at j t h.t1 h.t2)) d
pair t r h i j {d} w e =
    let m = time_of t r.t1 in
    let n = time_of t r.t2 in
    let a = apart (pos unit) (pos 33554432) t (compare_at i t m n) (compare_at j t m n) (level i r) (level j r) (sum First t r)
    (sum_close i t r) (sum_close j t r) in
    rw (w.one, w.two, sym e) (record { near = abs_under (pos 33554432) _ a.0 a.1 })

pub turned : (a b : ℤ) → neg_ℤ (b -ℤ a) ≡ a -ℤ b
turned a b = omega (arith, order, P-neg (b -ℤ a), N-neg (b -ℤ a), parts-- a b, parts-- b a)

pub on_times : (t va vb : ℤ) → (modulated t va vb).clipped ≡ false → AsAsked t va vb (modulated t va vb)
unfolding modulated placed times_of entries_of
on_times t va vb e =
    let r = sector_of (entries_of va vb) in
    let h = times_of t r in
    let s = serves va vb in
    let w = kept t (time_of t r.t1) (time_of t r.t2) e in
    (pair t r h r.a r.b w (s.a_b ∙ turned (A va) (B vb)), pair t r h r.b r.c w s.b_c, pair t r h r.a r.c w s.a_c)
