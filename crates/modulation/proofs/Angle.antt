-- Clipped, the voltage is shortened and not turned (`shortened`): the times are those asked for, scaled, and the on_times differ by A − B, 2B and A + B,
-- times T/W, to less than 2 counts; for every period and every voltage. The table enters by `serves` and `top_of`, the rule by its laws.
-- Assumes nothing.
use mathlib.Core.Path.{◌≡◌, refl, subst, sym, ◌∙◌}
use mathlib.Core.Bool.{true}
use Prim.Native.Nat.{ℕ, ◌+◌, ◌*◌, ◌/◌, ◌≤◌, ◌<◌}
use native.Mathlib.Omega.{arith}
use lib.Dec.{lit<}
use lib.IntN.{ℤ, pos, negsuc, neg_ℤ, nat_abs, ◌+ℤ◌, ◌-ℤ◌, ◌*ℤ◌}
use lib.Signed.{◌≤ℤ◌, ◌<ℤ◌}
use Rattle.fixed.specs.Fixed.{down}
use Rattle.fixed.proofs.Parts.{order, diffs, is_diff, parts-+, parts--, P-neg, N-neg}
use Rattle.fixed.proofs.Ring.{*-+}
use Rattle.fixed.proofs.Size.{abs_parts, abs-+}
use Rattle.modulation.specs.declared.Turn.{Turn}
use Rattle.modulation.specs.declared.Turn.TheVariants.{First, Second, Third}
use Rattle.modulation.specs.declared.Sector.{Sector}
use Rattle.modulation.specs.declared.Times.{Times}
use Rattle.modulation.specs.Modulation.{A, B, W, entries_of, sector_of, time_of, cut, times_of, compare_at, placed, modulated}
use Rattle.modulation.specs.Modulation.{on, Scaled, NearShare, Largest, Shortened}
use Rattle.modulation.proofs.Sectors.{level, serves, top_of}
use Rattle.modulation.proofs.Shares.{Asked, part_of, words, one_most, one_least, both_most, both_least}
use Rattle.modulation.proofs.Clipping.{cut_parts, cut_scaled, scaled}
use Rattle.modulation.proofs.Compares.{unit, Short, apart, abs_under, turned, times_up}

-- ════ the shares of the times that the words f and g ask for, a and b
record Bounds (t f g a b : ℤ) : Type 0 where
  pub some : pos 0 <ℤ (f +ℤ g)
  pub first : pos 0 ≤ℤ f
  pub second : pos 0 ≤ℤ g
  pub one_most : ((f +ℤ g) *ℤ a) ≤ℤ (t *ℤ f +ℤ f)
  pub one_least : (t *ℤ f) <ℤ ((f +ℤ g) *ℤ a +ℤ (f +ℤ g) +ℤ g)
  pub both_most : ((f +ℤ g) *ℤ (a +ℤ b)) ≤ℤ (t *ℤ (f +ℤ g))
  pub both_least : (t *ℤ (f +ℤ g)) <ℤ ((f +ℤ g) *ℤ (a +ℤ b) +ℤ (f +ℤ g) +ℤ g)

bounds_of : (t f g a b : ℕ) → Asked unit t f g (t * f / unit) (t * g / unit) a b → Bounds (pos t) (pos f) (pos g) (pos a) (pos b)
bounds_of t f g a b h =
    let m = t * f / unit in
    let n = t * g / unit in
    record {
      some = omega (arith, order, words unit t f g m n a b h);
      first = omega (arith, order);
      second = omega (arith, order);
      one_most = omega (arith, order, one_most unit t f g m n a b h);
      one_least = omega (arith, order, one_least unit t f g m n a b h);
      both_most = omega (arith, order, both_most unit t f g m n a b h);
      both_least = omega (arith, order, both_least unit t f g m n a b h);
    }

bounds : (t f g : ℤ) → pos 0 ≤ℤ t → pos 0 ≤ℤ f → pos 0 ≤ℤ g → t <ℤ (time_of t f +ℤ time_of t g)
    → let h = cut t (time_of t f) (time_of t g) in Bounds t f g h.t1 h.t2
unfolding time_of down
bounds (pos t) (pos f) (pos g) ht hf hg o =
    let m = t * f / unit in
    let n = t * g / unit in
    let over : t < m + n = omega (arith, order) in
    let p = cut_parts t m n (omega arith) in
    let one = part_of t f unit (lit< tt) in
    let two = part_of t g unit (lit< tt) in
    let asked : Asked unit t f g m n p.a p.b = record { some = lit< tt; first = one; second = two; over = omega arith; shares = p.shares } in
    rw (p.one, p.two) (bounds_of t f g p.a p.b asked)
bounds (negsuc t) f g ht hf hg o = absurd ht.le
bounds (pos t) (negsuc f) g ht hf hg o = absurd hf.le
bounds (pos t) (pos f) (negsuc g) ht hf hg o = absurd hg.le

-- ════ so a compare and its level together come to the same at every place, but for less than 2 counts; p is the first compare, and w is f + g
at_first : (w f s : ℤ) → pos 0 ≤ℤ f → f <ℤ (w +ℤ w) → Short (w +ℤ w) (s +ℤ f) s
at_first w f s h k = omega (arith, order, parts-+ w w, parts-+ s f, parts-+ s (w +ℤ w))

at_second : (t w f g a p : ℤ) → t *ℤ w ≡ t *ℤ f +ℤ t *ℤ g → w ≡ f +ℤ g → (w *ℤ a) ≤ℤ (t *ℤ f +ℤ f) → (t *ℤ f) <ℤ (w *ℤ a +ℤ w +ℤ g)
    → Short (w +ℤ w) (w *ℤ p +ℤ t *ℤ w +ℤ f) (w *ℤ (p +ℤ a) +ℤ t *ℤ g)
at_second t w f g a p = rw (is_diff t, is_diff w, is_diff f, is_diff g, is_diff a, is_diff p) (simp diffs (omega arith))

at_third : (t w f g c p : ℤ) → w ≡ f +ℤ g → pos 0 ≤ℤ f → (w *ℤ c) ≤ℤ (t *ℤ w) → (t *ℤ w) <ℤ (w *ℤ c +ℤ w +ℤ g)
    → Short (w +ℤ w) (w *ℤ p +ℤ t *ℤ w +ℤ f) (w *ℤ (p +ℤ c) +ℤ t *ℤ pos 0)
at_third t w f g c p = rw (is_diff t, is_diff w, is_diff f, is_diff g, is_diff c, is_diff p) (simp diffs (omega arith))

-- the row's two words together, and what a compare and its level come to
abbrev both : Sector → ℤ
both r = r.t1 +ℤ r.t2

abbrev sum : Turn → ℤ → Sector → Times → ℤ
sum k t r h = both r *ℤ compare_at k t h.t1 h.t2 +ℤ t *ℤ level k r

abbrev Close : Turn → ℤ → Sector → Times → Type 0
Close k t r h = Short (both r +ℤ both r) (sum First t r h +ℤ r.t1) (sum k t r h)

sum_close : (k : Turn) (t : ℤ) (r : Sector) (h : Times) → Bounds t r.t1 r.t2 h.t1 h.t2 → Close k t r h
unfolding compare_at
sum_close First t r h q =
    let f = r.t1 in
    let under : f <ℤ (both r +ℤ both r) = omega (arith, order, q.some, q.second, parts-+ f r.t2, parts-+ (both r) (both r)) in
    at_first (both r) f (sum First t r h) q.first under
sum_close Second t r h q =
    at_second t (both r) r.t1 r.t2 h.t1 (compare_at First t h.t1 h.t2) (*-+ t r.t1 r.t2) refl q.one_most q.one_least
sum_close Third t r h q =
    let p = compare_at First t h.t1 h.t2 in
    subst (λ (c : ℤ). Short (both r +ℤ both r) (sum First t r h +ℤ r.t1) (both r *ℤ c +ℤ t *ℤ pos 0)) (sums p h.t1 h.t2)
    (at_third t (both r) r.t1 r.t2 (h.t1 +ℤ h.t2) p refl q.first q.both_most q.both_least)
  where
    sums : (p a b : ℤ) → p +ℤ (a +ℤ b) ≡ p +ℤ a +ℤ b
    sums p a b = omega (arith, order, parts-+ p a, parts-+ a b, parts-+ p (a +ℤ b), parts-+ (p +ℤ a) b)

-- any two places
within_wide : (w z : ℤ) → neg_ℤ (w +ℤ w) <ℤ z → z <ℤ (w +ℤ w) → nat_abs z < 2 * nat_abs w
within_wide w z l h = omega (arith, abs-+ w w, abs_under (w +ℤ w) z l h)

pair : (t : ℤ) (r : Sector) (h : Times) (i j : Turn) {d : ℤ} → Bounds t r.t1 r.t2 h.t1 h.t2 → level i r -ℤ level j r ≡ d
    → NearShare (both r) t (on t (compare_at i t h.t1 h.t2) -ℤ on t (compare_at j t h.t1 h.t2)) d
pair t r h i j {d} q e =
    let w = both r in
    let c = compare_at i t h.t1 h.t2 in
    let k = compare_at j t h.t1 h.t2 in
    let a = apart w (w +ℤ w) t c k (level i r) (level j r) (sum First t r h +ℤ r.t1) (sum_close i t r h q) (sum_close j t r h q) in
    rw (sym e) (record { near = within_wide w _ a.0 a.1 })

-- ════ W is the largest of the three that the voltage asks
level_in : (k : Turn) (r : Sector) → pos 0 ≤ℤ r.t1 → pos 0 ≤ℤ r.t2 → (pos 0 ≤ℤ level k r) × (level k r ≤ℤ both r)
level_in First r h k = omega (arith, order, parts-+ r.t1 r.t2)
level_in Second r h k = omega (arith, order, parts-+ r.t1 r.t2)
level_in Third r h k = omega (arith, order, parts-+ r.t1 r.t2)

size_most : (w z : ℤ) → neg_ℤ w ≤ℤ z → z ≤ℤ w → nat_abs z ≤ nat_abs w
size_most w (pos n) l h = omega (arith, order, abs_parts w)
size_most w (negsuc n) l h = omega (arith, order, abs_parts w, P-neg w, N-neg w)

at_most : (i j : Turn) (r : Sector) {d : ℤ} → pos 0 ≤ℤ r.t1 → pos 0 ≤ℤ r.t2 → level i r -ℤ level j r ≡ d → nat_abs d ≤ nat_abs (both r)
at_most i j r h k e =
    let a = level_in i r h k in
    let b = level_in j r h k in
    let w = both r in
    rw (sym e)
    (size_most w (level i r -ℤ level j r) (omega (arith, order, a, b, parts-- (level i r) (level j r), P-neg w, N-neg w))
    (omega (arith, order, a, b, parts-- (level i r) (level j r))))

pub largest : (va vb : ℤ) → Largest (W va vb) (A va -ℤ B vb) (pos 2 *ℤ B vb) (A va +ℤ B vb)
unfolding entries_of
largest va vb =
    let r = sector_of (entries_of va vb) in
    let s = serves va vb in
    record {
      up = omega (arith, order, s.one, s.two, parts-+ r.t1 r.t2);
      x_most = at_most r.a r.b r s.one s.two (s.a_b ∙ turned (A va) (B vb));
      y_most = at_most r.b r.c r s.one s.two s.b_c;
      z_most = at_most r.a r.c r s.one s.two s.a_c;
      one_of_them = rw (← turned (A va) (B vb)) (top_of va vb);
    }

-- ════ of every voltage
pub shortened : (t va vb : ℤ) → pos 0 ≤ℤ t → (modulated t va vb).clipped ≡ true → Shortened t va vb (modulated t va vb)
unfolding modulated placed times_of entries_of
shortened t va vb up e =
    let r = sector_of (entries_of va vb) in
    let h = times_of t r in
    let s = serves va vb in
    let u = times_up t va vb up in
    let c = scaled t (time_of t r.t1) (time_of t r.t2) e in
    let b = bounds t r.t1 r.t2 up s.one s.two c.over in
    let q = subst (λ (k : Times). Bounds t r.t1 r.t2 k.t1 k.t2) (sym c.is) b in
    record {
      whole = largest va vb;
      times = (refl, subst (Scaled t (time_of t r.t1) (time_of t r.t2)) (sym c.is) (cut_scaled t _ _ up u.0 u.1 c.over));
      a_b = pair t r h r.a r.b q (s.a_b ∙ turned (A va) (B vb));
      b_c = pair t r h r.b r.c q s.b_c;
      a_c = pair t r h r.a r.c q s.a_c;
    }
