-- What the code that reads a value stands on: finding a byte, digits, whole numbers, the digits behind a point, gains.
-- Assumes nothing.
use mathlib.Core.Path.{◌≡◌, refl, ap, sym, ◌∙◌}
use mathlib.Core.Bool.{Bool, true, false, cond, ◌&&◌, and-false}
use mathlib.Core.List.{List, [], ◌∷◌}
use mathlib.Core.Logic.{⊎_elim}
use Prim.Native.Nat.{ℕ, suc, ◌+◌, ◌-◌, ◌*◌, ◌^◌, ◌≤◌, ◌<◌}
use native.Mathlib.Nat.{pow-suc}
use native.Mathlib.Numerals.{add-one}
use native.Mathlib.Omega.{arith}
use borrow.Author.Tests.{lt-ltb, le-ltb, le-leb, lt-leb, ne_eqb, eq-eqb}
use Rattle.std.proofs.lemmas.Bool.Decides.{nat_tests}
use lib.Dec.{eqb, ltb, leb}
use lib.ListN.{length, get_or, take, drop, length-drop, drop_of_length-le}
use lib.Seq.{drop-cons, take_all}
use Rattle.text.specs.Grammar.{is_digit, all_digits, value_of}
use Rattle.std.specs.Prelude.{Option, Some, None, ◌≢◌, nat_eq}
use Rattle.std.specs.List.{ends_with}
use Rattle.values.specs.Value.{digits_of, whole_of, zero_behind, ths_of, fraction_of, before, sum, gain_of}
use Rattle.fixed.proofs.Choice.{true_or_false}
use Rattle.values.proofs.ValueLaws.{digit_hi, power_most, digits→, value_less, whole_less, fraction→}

-- ════ finding a byte
pub before_hit : (b c : ℕ) (s : List ℕ) → c ≡ b → length (before b (c ∷ s)) ≡ 0
unfolding before
before_hit b c s e = rw (eq-eqb c b e) refl

pub before_miss : (b c : ℕ) (s : List ℕ) → c ≢ b → length (before b (c ∷ s)) ≡ length (before b s) + 1
unfolding before
before_miss b c s e = rw (ne_eqb c b e) (omega arith)

pub before_none : (b : ℕ) → length (before b []) ≡ 0
unfolding before
before_none b = refl

-- ════ digits
-- what stands once i bytes were digits, of the value v
pub record Reading (s : List ℕ) (v i : ℕ) : Type 0 where
  pub good : all_digits s ≡ all_digits (drop i s)
  pub worth : value_of 0 s ≡ value_of v (drop i s)
  pub less : v < 10 ^ i

pub reading_start : (s : List ℕ) → Reading s 0 0
reading_start s = record { good = refl; worth = refl; less = omega arith }

module _ {s : List ℕ} {v i : ℕ} (r : Reading s v i) (h : i < length s) where
  pub reading_small : length s ≤ 12 → v < 100000000000
  reading_small m = omega (arith, r.less, power_most i 11 (omega arith))

  good_here : all_digits s ≡ (is_digit (get_or s i 0) && all_digits (drop (i + 1) s))
  unfolding all_digits
  good_here = r.good ∙ rw (drop-cons s i 0 h, add-one i) refl

  worth_here : value_of 0 s ≡ value_of (v * 10 + (get_or s i 0 - 48)) (drop (i + 1) s)
  unfolding value_of
  worth_here = r.worth ∙ rw (drop-cons s i 0 h, add-one i) refl

  pub reading_more : {d : ℕ} → is_digit (get_or s i 0) ≡ true → d ≡ get_or s i 0 - 48 → Reading s (v * 10 + d) (i + 1)
  reading_more g e = rw e record {
    good = good_here ∙ ap (λ (t : Bool). t && all_digits (drop (i + 1) s)) g;
    worth = worth_here;
    less = rw (add-one i, pow-suc 10 i) (omega (arith, r.less, digit_hi (get_or s i 0) g));
  }

  pub reading_wrong : (n : ℕ) → is_digit (get_or s i 0) ≡ false → None ≡ digits_of n s
  unfolding digits_of
  reading_wrong n d = rw (good_here, d, and-false (ltb 0 (length s) && leb (length s) n)) refl

pub reading_end : (s : List ℕ) (v i n : ℕ) → Reading s v i → length s ≤ i → 0 < length s → length s ≤ n → Some v ≡ digits_of n s
unfolding digits_of all_digits value_of
reading_end s v i n r k h m =
    let e = drop_of_length-le s {i = i} k in
    rw (r.good, r.worth, e, lt-ltb 0 (length s) h, le-leb (length s) n m) refl

pub too_few : (s : List ℕ) (n : ℕ) → length s ≡ 0 → None ≡ digits_of n s
unfolding digits_of
too_few s n h = rw (le-ltb 0 (length s) (omega arith)) refl

pub too_many : (s : List ℕ) (n : ℕ) → n < length s → None ≡ digits_of n s
unfolding digits_of
too_many s n h = rw (lt-leb (length s) n h, and-false (ltb 0 (length s))) refl

pub ruleset readings = (reading_start, reading_small, reading_more, reading_wrong, reading_end, too_few, too_many)

-- ════ behind the point
pub fraction_wrong : (s : List ℕ) → digits_of 12 s ≡ None → None ≡ fraction_of s
unfolding fraction_of ths_of
fraction_wrong s e = rw e (by (zero_behind s))
  where
    by : (b : Bool) → ◌≡◌ {A = Option ℕ} None (cond b None None)
    by true = refl
    by false = refl

-- digits, one at least, end in a zero where the last of them is one
ends_zero : (s : List ℕ) {v : ℕ} → digits_of 12 s ≡ Some v → ends_with nat_eq s (48 ∷ []) ≡ zero_behind s
unfolding zero_behind
ends_zero s e =
    let some = (digits→ 12 s e).some in
    let i = length s - 1 in
    let b = get_or s i 0 in
    let last : drop i s ≡ b ∷ [] = drop-cons s i 0 (omega arith) ∙ ap (λ (l : List ℕ). b ∷ l) (drop_of_length-le s {i = suc i} (omega arith)) in
    rw last (same 48 b)
  where
    same : (a b : ℕ) → (eqb a b && true) ≡ eqb b a
    same a b = grind (arith, nat_tests)

pub fraction_zero : (s : List ℕ) {v : ℕ} → digits_of 12 s ≡ Some v → ends_with nat_eq s (48 ∷ []) ≡ true → None ≡ fraction_of s
unfolding fraction_of
fraction_zero s e z = rw (sym (ends_zero s e) ∙ z) refl

pub fraction_other : (s : List ℕ) {v : ℕ} → digits_of 12 s ≡ Some v → ends_with nat_eq s (48 ∷ []) ≡ false → ths_of (10 ^ length s) (Some v) ≡ fraction_of s
unfolding fraction_of
fraction_other s e z = rw (sym (ends_zero s e) ∙ z, e) refl

pub digits_small : (s : List ℕ) (v : ℕ) → digits_of 12 s ≡ Some v → (v < 1000000000000) × (length s ≤ 12)
digits_small s v e =
    let d = digits→ 12 s e in
    (omega (arith, d.value, value_less s d.all, power_most (length s) 12 d.most), d.most)

-- ════ gains
-- what stands in front of a byte is the first bytes
pub before_take : (b : ℕ) (s : List ℕ) → take (length (before b s)) s ≡ before b s
unfolding before
before_take b [] = refl
before_take b (c ∷ s) = ⊎_elim (λ e. rw e refl) (λ e. rw e (ap (λ (l : List ℕ). c ∷ l) (before_take b s))) (true_or_false (eqb c b))

-- all from a place on, as the code takes them
pub rest_part : (n : ℕ) (s : List ℕ) → take (length s - n) (drop n s) ≡ drop n s
rest_part n s = take_all (length s - n) (drop n s) (omega (arith, length-drop n s))

-- so a gain is what the code reads in front of a point and behind it
gain_with : (s : List ℕ) (p : ℕ) → p ≡ length (before 46 s) → p < length s
    → gain_of s ≡ sum (whole_of (take p s)) (fraction_of (take (length s - (p + 1)) (drop (p + 1) s)))
unfolding gain_of
gain_with s p e h = rw (e, lt-ltb (length (before 46 s)) (length s) (omega arith), before_take 46 s, rest_part, add-one) refl

gain_without : (s : List ℕ) (p : ℕ) → p ≡ length (before 46 s) → length s ≤ p → gain_of s ≡ sum (whole_of s) (Some 0)
unfolding gain_of
gain_without s p e h = rw (le-ltb (length (before 46 s)) (length s) (omega arith)) refl

module _ (s : List ℕ) (p : ℕ) (e : p ≡ length (before 46 s)) where
  pub gain_wrong : p < length s → whole_of (take p s) ≡ None → gain_of s ≡ None
  unfolding sum
  gain_wrong h n = gain_with s p e h ∙ rw n refl

  pub gain_none : {w : ℕ} → p < length s → whole_of (take p s) ≡ Some w → fraction_of (take (length s - (p + 1)) (drop (p + 1) s)) ≡ None → gain_of s ≡ None
  unfolding sum
  gain_none h n f = gain_with s p e h ∙ rw (n, f) refl

  pub gain_both : {w f : ℕ} → p < length s → whole_of (take p s) ≡ Some w → fraction_of (take (length s - (p + 1)) (drop (p + 1) s)) ≡ Some f
      → gain_of s ≡ Some (w * 4096 + f)
  unfolding sum
  gain_both h n f = gain_with s p e h ∙ rw (n, f) refl

  pub gain_whole : length s ≤ p → whole_of s ≡ None → gain_of s ≡ None
  unfolding sum
  gain_whole h n = gain_without s p e h ∙ rw n refl

  pub gain_alone : {w : ℕ} → length s ≤ p → whole_of s ≡ Some w → gain_of s ≡ Some (w * 4096)
  unfolding sum
  gain_alone {w} h n = let z : w * 4096 + 0 ≡ w * 4096 = omega arith in gain_without s p e h ∙ rw (n, z) refl

pub fraction_less : (s : List ℕ) {f : ℕ} → fraction_of s ≡ Some f → f < 4096
fraction_less s e = (fraction→ s e).less

-- a gain's cases, and that its parts are small enough to add up
pub ruleset gains = (gain_wrong, gain_none, gain_both, gain_whole, gain_alone, whole_less, fraction_less)

-- a fraction's cases, and that its digits are small enough to count with
pub ruleset fractions = (fraction_wrong, fraction_zero, fraction_other, digits_small)
