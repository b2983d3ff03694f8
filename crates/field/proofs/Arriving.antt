-- Where the current d is held the flux goes to it. All of it is said of the gap, 4096·d − fine. The flux is d or d − 1 exactly where the gap is within
-- −4095..4096. How far it has to go is a bound: the gap is at most 4095 and b more, either way. A step takes Kr off b, and a gap within 4095 stays so.
-- Assumes nothing.
use mathlib.Core.Path.{◌≡◌, sym, ap, ◌∙◌}
use mathlib.Core.Logic.{inl, inr, ⊎_elim}
use Prim.Native.Nat.{ℕ, zero, suc, ◌+◌, ◌*◌, ◌≤◌}
use native.Mathlib.Nat.{mul-suc}
use native.Mathlib.Omega.{arith}
use lib.IntN.{ℤ, pos, negsuc, neg_ℤ, nat_abs, ◌+ℤ◌, ◌-ℤ◌, ◌*ℤ◌}
use lib.Signed.{◌≤ℤ◌, ◌<ℤ◌, lt_z_yes, le_z_yes}
use Rattle.fixed.specs.Fixed.{down, Between}
use Rattle.fixed.proofs.Parts.{order, diffs, is_diff, parts-+, parts--, P-neg, N-neg}
use Rattle.fixed.proofs.Ring.{≤_trans, <-≤, <-or-≤, *-nonneg, *-neg_pos, gap_up, gap_down}
use Rattle.fixed.proofs.Size.{abs←, abs_lo, abs_hi}
use Rattle.fixed.proofs.DownLaws.{down_low, down_high, down_unique, le_down, down_lt}
use Rattle.field.specs.Field.{fine_next, flux_of}
use Rattle.field.specs.Promised.{KrIn, There, FineBetween, NeverFalls, RestsThere, StaysThere, held_for, Arrives}
use Rattle.field.proofs.FieldLaws as law

up : (kr : ℤ) → KrIn kr → pos 0 ≤ℤ kr
up kr f = let h = f.lo in omega (arith, order)

pub fine_between : FineBetween
fine_between kr fine d f = law.fine_between kr fine d (up kr f) f.hi

pub never_falls : NeverFalls
never_falls kr fine d f h = ((fine_between kr fine d f).rising h).0

-- ════ the gap, and where the flux is there
abbrev gap : ℤ → ℤ → ℤ
gap fine d = pos 4096 *ℤ d -ℤ fine

there← : (fine d : ℤ) → negsuc 4094 ≤ℤ gap fine d → gap fine d ≤ℤ pos 4096 → There d fine
unfolding flux_of
there← fine d l h =
    ⊎_elim (λ b. inr (sym (down_unique fine (pos 4096) (d -ℤ pos 1) (lt_z_yes tt) (from fine d h) (below fine d b))))
    (λ a. inl (sym (down_unique fine (pos 4096) d (lt_z_yes tt) a (before fine d l)))) (<-or-≤ fine (pos 4096 *ℤ d))
  where
    from : (fine d : ℤ) → gap fine d ≤ℤ pos 4096 → (pos 4096 *ℤ (d -ℤ pos 1)) ≤ℤ fine
    from fine d = rw (is_diff d, is_diff fine) (simp diffs (omega arith))

    below : (fine d : ℤ) → fine <ℤ (pos 4096 *ℤ d) → fine <ℤ (pos 4096 *ℤ (d -ℤ pos 1) +ℤ pos 4096)
    below fine d = rw (is_diff d, is_diff fine) (simp diffs (omega arith))

    before : (fine d : ℤ) → negsuc 4094 ≤ℤ gap fine d → fine <ℤ (pos 4096 *ℤ d +ℤ pos 4096)
    before fine d = rw (is_diff d, is_diff fine) (simp diffs (omega arith))

there→ : (fine d : ℤ) → There d fine → (negsuc 4094 ≤ℤ gap fine d) × (gap fine d ≤ℤ pos 4096)
unfolding flux_of
there→ fine d t =
    let q = down fine (pos 4096) in
    let b : ((d -ℤ pos 1) ≤ℤ q) × (q ≤ℤ d) =
    ⊎_elim (λ e. omega (arith, order, e, parts-- d (pos 1))) (λ e. omega (arith, order, e, parts-- d (pos 1))) t in
    (lo fine q d (down_high fine (pos 4096) (lt_z_yes tt)) b.1, hi fine q d (down_low fine (pos 4096) (lt_z_yes tt)) b.0)
  where
    lo : (fine q d : ℤ) → fine <ℤ (pos 4096 *ℤ q +ℤ pos 4096) → q ≤ℤ d → negsuc 4094 ≤ℤ gap fine d
    lo fine q d = rw (is_diff d, is_diff fine, is_diff q) (simp diffs (omega arith))

    hi : (fine q d : ℤ) → (pos 4096 *ℤ q) ≤ℤ fine → (d -ℤ pos 1) ≤ℤ q → gap fine d ≤ℤ pos 4096
    hi fine q d = rw (is_diff d, is_diff fine, is_diff q) (simp diffs (omega arith))

-- a step leaves a gap between the old one and 0
pub stays_there : StaysThere
stays_there kr fine d f t =
    let o = pos 4096 *ℤ d in
    let new = fine_next kr fine d in
    let g = there→ fine d t in
    let w = fine_between kr fine d f in
    let p = parts-- o fine in
    let q = parts-- o new in
    ⊎_elim (λ h. let b = w.rising (<-≤ h) in there← new d (omega (arith, order, b, q)) (omega (arith, order, b, g, p, q)))
    (λ h. let b = w.falling h in there← new d (omega (arith, order, b, g, p, q)) (omega (arith, order, b, q))) (<-or-≤ fine o)

-- ════ at rest
-- nothing is added, so that k·g is within 0..4095; with k at least 1 so is g
module _ (k g : ℤ) (k1 : pos 1 ≤ℤ k) (lo : pos 0 ≤ℤ (k *ℤ g)) (hi : (k *ℤ g) <ℤ pos 4096) where
  gap_lo : pos 0 ≤ℤ g
  gap_lo = ⊎_elim (λ h. absurd (no k g lo (*-neg_pos h k1))) (λ h. h) (<-or-≤ g (pos 0))
    where
      no : (k g : ℤ) → pos 0 ≤ℤ (k *ℤ g) → (g *ℤ k) <ℤ pos 0 → ⊥
      no k g = rw (is_diff k, is_diff g) (simp diffs (omega arith))

  gap_hi : g ≤ℤ pos 4096
  gap_hi = least k g (*-nonneg (gap_up (pos 1) k k1) gap_lo) hi
    where
      least : (k g : ℤ) → pos 0 ≤ℤ ((k -ℤ pos 1) *ℤ g) → (k *ℤ g) <ℤ pos 4096 → g ≤ℤ pos 4096
      least k g = rw (is_diff k, is_diff g) (simp diffs (omega arith))

pub rests_there : RestsThere
unfolding fine_next
rests_there kr fine d k1 e =
    let g = gap fine d in
    let t = kr *ℤ g in
    let c = down t (pos 4096) in
    let lo = from fine c t e (down_low t (pos 4096) (lt_z_yes tt)) in
    let hi = to fine c t e (down_high t (pos 4096) (lt_z_yes tt)) in
    there← fine d (≤_trans (le_z_yes tt) (gap_lo kr g k1 lo hi)) (gap_hi kr g k1 lo hi)
  where
    from : (x c t : ℤ) → x +ℤ c ≡ x → (pos 4096 *ℤ c) ≤ℤ t → pos 0 ≤ℤ t
    from x c t = rw (is_diff x, is_diff c, is_diff t) (simp diffs (omega arith))

    to : (x c t : ℤ) → x +ℤ c ≡ x → t <ℤ (pos 4096 *ℤ c +ℤ pos 4096) → t <ℤ pos 4096
    to x c t = rw (is_diff x, is_diff c, is_diff t) (simp diffs (omega arith))

-- ════ on the way
-- the gap is at most 4095 and b more
abbrev Within : ℕ → ℤ → ℤ → Type 0
Within b fine d = nat_abs (gap fine d) ≤ b + 4095

within→ : (fine d : ℤ) → Within 0 fine d → There d fine
within→ fine d h = let g = gap fine d in there← fine d (abs_lo 4095 g h) (≤_trans (abs_hi 4095 g h) (le_z_yes tt))

-- o is the goal; fine is moved by c towards it and not past it, by k at least where the gap is 4096 or more
module _ (k b : ℕ) (o fine c : ℤ) (h : nat_abs (o -ℤ fine) ≤ k + b + 4095) where
  abbrev left : ℤ
  left = o -ℤ (fine +ℤ c)

  closer_up : (fine ≤ℤ (fine +ℤ c)) × ((fine +ℤ c) ≤ℤ o) → (pos 4096 ≤ℤ (o -ℤ fine) → pos k ≤ℤ c) → nat_abs left ≤ b + 4095
  closer_up w far =
      let p = parts-- o fine in
      let q = parts-- o (fine +ℤ c) in
      let bound = abs_hi (k + b + 4095) (o -ℤ fine) h in
      abs← (b + 4095) left (omega (arith, order, w, q, P-neg (pos (b + 4095)), N-neg (pos (b + 4095))))
      (⊎_elim (λ g. omega (arith, order, g, w, p, q)) (λ g. omega (arith, order, far g, bound, p, q, parts-+ fine c)) (<-or-≤ (o -ℤ fine) (pos 4096)))

  closer_down : (o ≤ℤ (fine +ℤ c)) × ((fine +ℤ c) ≤ℤ fine) → ((o -ℤ fine) ≤ℤ negsuc 4095 → c <ℤ (pos 1 -ℤ pos k)) → nat_abs left ≤ b + 4095
  closer_down w far =
      let p = parts-- o fine in
      let q = parts-- o (fine +ℤ c) in
      let m = k + b + 4095 in
      let bound = abs_lo m (o -ℤ fine) h in
      let n = N-neg (pos (b + 4095)) in
      abs← (b + 4095) left
      (⊎_elim (λ g. omega (arith, order, g, w, p, q, P-neg (pos (b + 4095)), n))
      (λ g. omega (arith, order, far g, bound, N-neg (pos m), p, q, parts-+ fine c, parts-- (pos 1) (pos k), P-neg (pos (b + 4095)), n))
      (<-or-≤ (negsuc 4095) (o -ℤ fine)))
      (omega (arith, order, w, q))

module _ (k b : ℕ) (fine d : ℤ) (f : KrIn (pos k)) (h : Within (k + b) fine d) where
  abbrev g : ℤ
  g = gap fine d

  abbrev c : ℤ
  c = down (pos k *ℤ g) (pos 4096)

  k_up : pos 4096 ≤ℤ g → pos k ≤ℤ c
  k_up e = le_down (pos k *ℤ g) (pos 4096) (pos k) (lt_z_yes tt) (enough (pos k) g (*-nonneg (up (pos k) f) (gap_up (pos 4096) g e)))
    where
      enough : (k g : ℤ) → pos 0 ≤ℤ (k *ℤ (g -ℤ pos 4096)) → (pos 4096 *ℤ k) ≤ℤ (k *ℤ g)
      enough k g = rw (is_diff k, is_diff g) (simp diffs (omega arith))

  k_down : g ≤ℤ negsuc 4095 → c <ℤ (pos 1 -ℤ pos k)
  k_down e = down_lt (pos k *ℤ g) (pos 4096) (pos 1 -ℤ pos k) (lt_z_yes tt) (enough (pos k) g (*-nonneg (up (pos k) f) (gap_down g (negsuc 4095) e)))
    where
      enough : (k g : ℤ) → pos 0 ≤ℤ (k *ℤ neg_ℤ (g -ℤ negsuc 4095)) → (k *ℤ g) <ℤ (pos 4096 *ℤ (pos 1 -ℤ k))
      enough k g = rw (is_diff k, is_diff g) (simp diffs (omega arith))

  closer_by : Within b (fine_next (pos k) fine d) d
  unfolding fine_next
  closer_by =
      let o = pos 4096 *ℤ d in
      let w : Between fine (fine +ℤ c) o = fine_between (pos k) fine d f in
      ⊎_elim (λ a. closer_up k b o fine c h (w.rising (<-≤ a)) k_up) (λ a. closer_down k b o fine c h (w.falling a) k_down) (<-or-≤ fine o)

closer : (kr fine d : ℤ) (b : ℕ) → KrIn kr → Within (nat_abs kr + b) fine d → Within b (fine_next kr fine d) d
closer (pos k) fine d b f h = closer_by k b fine d f h
closer (negsuc k) fine d b f h = absurd f.lo.le

-- ════ so many steps
held_closer : (n b : ℕ) (kr fine d : ℤ) → KrIn kr → Within (nat_abs kr * n + b) fine d → Within b (held_for n kr fine d) d
unfolding held_for
held_closer zero b kr fine d f h = omega (arith, h)
held_closer (suc n) b kr fine d f h =
    closer kr (held_for n kr fine d) d b f (held_closer n (nat_abs kr + b) kr fine d f (omega (arith, h, mul-suc (nat_abs kr) n)))

-- j steps after i steps
pub held_on : (i j : ℕ) (kr fine d : ℤ) → held_for j kr (held_for i kr fine d) d ≡ held_for (i + j) kr fine d
unfolding held_for
held_on i zero kr fine d = let e : i ≡ i + 0 = omega arith in ap (λ (n : ℕ). held_for n kr fine d) e
held_on i (suc j) kr fine d =
    let e : suc (i + j) ≡ i + suc j = omega arith in
    ap (λ (z : ℤ). fine_next kr z d) (held_on i j kr fine d) ∙ ap (λ (n : ℕ). held_for n kr fine d) e

pub arrives : Arrives
arrives kr fine d n f h = within→ (held_for n kr fine d) d (held_closer n 0 kr fine d f (omega (arith, h)))
