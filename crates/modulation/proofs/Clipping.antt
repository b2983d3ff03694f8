-- The clipping rule, behind its laws: what it leaves has room in the period (`cut_room`) and is the times asked for, scaled (`cut_scaled`), and it
-- marks the times as clipped (`cut_marked`). Of naturals, its two quotients are `cut_parts`. Nothing else looks into `cut` but the proof of the code
-- that does it and the clipped case of docs/RULES.md, which is computed: under another rule these are shown anew.
-- From them, of every step: its times have room (`clipped_room`); they are marked exactly where t1 + t2 > T (`marked`); not clipped they are the times
-- asked for (`kept`), and clipped they are those of the rule (`scaled`).
-- Assumes nothing.
use mathlib.Core.Path.{◌≡◌, refl, subst, sym, ◌∙◌}
use mathlib.Core.Bool.{Bool, true, false, not, cond}
use Prim.Native.Nat.{ℕ, ◌+◌, ◌*◌, ◌/◌, ◌<◌}
use native.Mathlib.Omega.{arith}
use lib.Dec.{T}
use lib.IntN.{ℤ, pos, negsuc, ◌+ℤ◌, ◌*ℤ◌}
use lib.Signed.{◌≤ℤ◌, ◌<ℤ◌, lt_z, lt_z_yes, lt_z_no}
use Rattle.fixed.specs.Fixed.{down}
use Rattle.fixed.proofs.Parts.{order, parts--, P-neg, N-neg}
use Rattle.modulation.specs.declared.Times.{Times}
use Rattle.modulation.specs.Modulation.{share_of, cut, clipped_times, Scaled, Room}
use Rattle.modulation.proofs.Shares.{Shares, part, sum_most, sum_least, proportion_most, proportion_least}

-- ════ the rule
pub record Parts (t m n : ℕ) (h : Times) : Type 0 where
  pub a : ℕ
  pub b : ℕ
  pub one : h.t1 ≡ pos a
  pub two : h.t2 ≡ pos b
  pub shares : Shares t m n a b

pub cut_parts : (t m n : ℕ) → 0 < m + n → Parts t m n (cut (pos t) (pos m) (pos n))
unfolding cut share_of down
cut_parts t m n h = record {
  a = m * t / (m + n);
  b = n * t / (m + n);
  one = refl;
  two = refl;
  shares = record { some = h; one = part (m * t) (m + n) h; two = part (n * t) (m + n) h };
}

-- a law of the rule, where it is used: the times are not negative, and together more than the period
of_parts : (R : ℤ → ℤ → ℤ → Times → Type 0) → ((t m n : ℕ) (h : Times) → Parts t m n h → R (pos t) (pos m) (pos n) h)
    → (t t1 t2 : ℤ) → pos 0 ≤ℤ t → pos 0 ≤ℤ t1 → pos 0 ≤ℤ t2 → t <ℤ (t1 +ℤ t2) → R t t1 t2 (cut t t1 t2)
of_parts R f (pos t) (pos m) (pos n) h h1 h2 o = f t m n (cut (pos t) (pos m) (pos n)) (cut_parts t m n (omega (arith, order)))
of_parts R f (negsuc t) t1 t2 h h1 h2 o = absurd h.le
of_parts R f (pos t) (negsuc m) t2 h h1 h2 o = absurd h1.le
of_parts R f (pos t) (pos m) (negsuc n) h h1 h2 o = absurd h2.le

pub cut_room : (t t1 t2 : ℤ) → pos 0 ≤ℤ t → pos 0 ≤ℤ t1 → pos 0 ≤ℤ t2 → t <ℤ (t1 +ℤ t2) → Room t (cut t t1 t2)
cut_room = of_parts (λ t t1 t2 h. Room t h) by
  where
    by : (t m n : ℕ) (h : Times) → Parts t m n h → Room (pos t) h
    by t m n h p = record {
      one = rw p.one (omega (arith, order));
      two = rw p.two (omega (arith, order));
      both = rw (p.one, p.two) (omega (arith, order, sum_most t m n p.a p.b p.shares));
    }

pub cut_scaled : (t t1 t2 : ℤ) → pos 0 ≤ℤ t → pos 0 ≤ℤ t1 → pos 0 ≤ℤ t2 → t <ℤ (t1 +ℤ t2) → Scaled t t1 t2 (cut t t1 t2)
cut_scaled t t1 t2 h h1 h2 o = of_parts (λ (t t1 t2 : ℤ) (h : Times). t <ℤ (t1 +ℤ t2) → Scaled t t1 t2 h) by t t1 t2 h h1 h2 o o
  where
    by : (t m n : ℕ) (h : Times) → Parts t m n h → pos t <ℤ (pos m +ℤ pos n) → Scaled (pos t) (pos m) (pos n) h
    by t m n h p o =
        let a = p.a in
        let b = p.b in
        let s = p.shares in
        record {
          over = o;
          most = rw (p.one, p.two) (omega (arith, order, sum_most t m n a b s));
          least = rw (p.one, p.two) (omega (arith, order, sum_least t m n a b s));
          one = rw p.one (record { low = omega (arith, order, s.one.low); high = omega (arith, order, s.one.high) });
          two = rw p.two (record { low = omega (arith, order, s.two.low); high = omega (arith, order, s.two.high) });
          proportion_lo =
              rw (p.one, p.two)
              (omega (arith, order, parts-- (pos a *ℤ pos n) (pos b *ℤ pos m), P-neg (pos n), N-neg (pos n), proportion_least t m n a b s));
          proportion_hi =
              rw (p.one, p.two) (omega (arith, order, parts-- (pos a *ℤ pos n) (pos b *ℤ pos m), proportion_most t m n a b s));
        }

pub cut_marked : (t t1 t2 : ℤ) → (cut t t1 t2).clipped ≡ true
unfolding cut
cut_marked t t1 t2 = refl

-- ════ of every step
-- a fact of the times, by the two ways
clipped_cases : (R : Times → Type 0) (t t1 t2 : ℤ) → (t <ℤ (t1 +ℤ t2) → R (cut t t1 t2))
    → ((t1 +ℤ t2) ≤ℤ t → R (record { t1 = t1; t2 = t2; clipped = false })) → R (clipped_times t t1 t2)
unfolding clipped_times
clipped_cases R t t1 t2 f g = by (lt_z t (t1 +ℤ t2)) (λ s. lt_z_yes s) (λ s. lt_z_no s)
  where
    by : (s : Bool) → (T s → t <ℤ (t1 +ℤ t2)) → (T (not s) → (t1 +ℤ t2) ≤ℤ t)
        → R (cond s (cut t t1 t2) (record { t1 = t1; t2 = t2; clipped = false }))
    by true j k = f (j tt)
    by false j k = g (k tt)

pub clipped_room : (t t1 t2 : ℤ) → pos 0 ≤ℤ t → pos 0 ≤ℤ t1 → pos 0 ≤ℤ t2 → Room t (clipped_times t t1 t2)
clipped_room t t1 t2 h h1 h2 =
    clipped_cases (Room t) t t1 t2 (cut_room t t1 t2 h h1 h2) (λ k. record { one = h1; two = h2; both = k })

pub marked : (t t1 t2 : ℤ) → (clipped_times t t1 t2).clipped ≡ lt_z t (t1 +ℤ t2)
unfolding clipped_times
marked t t1 t2 = by (lt_z t (t1 +ℤ t2))
  where
    by : (s : Bool) → (cond s (cut t t1 t2) (record { t1 = t1; t2 = t2; clipped = false })).clipped ≡ s
    by true = cut_marked t t1 t2
    by false = refl

pub record Kept (t t1 t2 : ℤ) (h : Times) : Type 0 where
  pub one : h.t1 ≡ t1
  pub two : h.t2 ≡ t2
  pub both : (t1 +ℤ t2) ≤ℤ t

pub kept : (t t1 t2 : ℤ) → (clipped_times t t1 t2).clipped ≡ false → Kept t t1 t2 (clipped_times t t1 t2)
kept t t1 t2 =
    clipped_cases (λ h. h.clipped ≡ false → Kept t t1 t2 h) t t1 t2 (λ o e. absurd (subst T (sym (cut_marked t t1 t2) ∙ e) tt))
    (λ k e. record { one = refl; two = refl; both = k })

pub record Cut (t t1 t2 : ℤ) (h : Times) : Type 0 where
  pub is : h ≡ cut t t1 t2
  pub over : t <ℤ (t1 +ℤ t2)

pub scaled : (t t1 t2 : ℤ) → (clipped_times t t1 t2).clipped ≡ true → Cut t t1 t2 (clipped_times t t1 t2)
scaled t t1 t2 =
    clipped_cases (λ h. h.clipped ≡ true → Cut t t1 t2 h) t t1 t2 (λ o e. record { is = refl; over = o })
    (λ k e. absurd (subst T (sym e) tt))
