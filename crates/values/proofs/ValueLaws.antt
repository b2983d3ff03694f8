-- Values: what is written is read back, and what is read is what is written.
-- Assumes nothing.
use mathlib.Core.Path.{◌≡◌, refl, ap, ap₂, sym, ◌∙◌}
use mathlib.Core.Bool.{Bool, true, false, cond, not, ◌&&◌, and-false}
use mathlib.Core.List.{List, [], ◌∷◌, ◌++◌, append_assoc, append-nil}
use mathlib.Core.Logic.{◌↔◌, ⊎_elim}
use Prim.Native.Nat.{ℕ, zero, suc, ◌+◌, ◌-◌, ◌*◌, ◌/◌, ◌%◌, ◌^◌, ◌≤◌, ◌<◌}
use native.Mathlib.Nat.{pow-suc, pow-le-pow_right, one-le-pow}
use native.Mathlib.Nat.{mul-le-mul_right, le_of_mul-le-mul_right, lt_of_mul-lt-mul_right, mul-mod_left, mul-div_cancel, div-add-mod'}
use native.Mathlib.Omega.{arith}
use borrow.Author.Tests.{ltb-true, leb-true, eqb-true, eqb-false, lt-ltb, le-ltb, le-leb, ne_eqb, eq-eqb, not-true}
use lib.Dec.{eqb, ltb, leb}
use lib.ListN.{length, get_or, drop, length-append, get_or-append}
use lib.Seq.{drop_at}
use Rattle.fixed.proofs.HeldLaws.{and_left, and_right, and_both}
use Rattle.text.specs.Grammar.{is_digit, all_digits, value_of}
use Rattle.writing.specs.Decimal.{digit_of, decimal, count_text}
use Rattle.fixed.proofs.Choice.{true_or_false, less_or_not}
use Rattle.writing.proofs.DecimalLaws.{decimal_one, decimal_more, by_digits, decimal_length, length_more, tenth}
use Rattle.writing.proofs.RoundTrip.{count_digits as all_digits_lem, count_value, count_some}
use Rattle.std.specs.Prelude.{Option, Some, None}
use Rattle.values.specs.Value.{top, fraction_digits, fraction_text, gain_text, value_text}
use Rattle.values.specs.Value.{digits_of, zero_in_front, whole_of, zero_behind, ths_of, fraction_of, before, has, behind, sum, gain_of, number_of}

-- ════ a number that a choice gives
pub only_if : (t : Bool) {x : Option ℕ} {v : ℕ} → cond t x None ≡ Some v → (t ≡ true) × (x ≡ Some v)
only_if true e = (refl, e)
only_if false e = cc

pub only_unless : (t : Bool) {x : Option ℕ} {v : ℕ} → cond t None x ≡ Some v → (t ≡ false) × (x ≡ Some v)
only_unless false e = (refl, e)
only_unless true e = cc

-- ════ digits
pub record Digits (n : ℕ) (bs : List ℕ) (v : ℕ) : Type 0 where
  pub some : 0 < length bs
  pub most : length bs ≤ n
  pub all : all_digits bs ≡ true
  pub value : value_of 0 bs ≡ v

pub digits→ : (n : ℕ) (bs : List ℕ) {v : ℕ} → digits_of n bs ≡ Some v → Digits n bs v
unfolding digits_of
digits→ n bs {v} e =
    let t = only_if (ltb 0 (length bs) && leb (length bs) n && all_digits bs) e in
    let a = and_left (ltb 0 (length bs) && leb (length bs) n) (all_digits bs) t.0 in
    record {
      some = ltb-true 0 (length bs) (and_left (ltb 0 (length bs)) (leb (length bs) n) a);
      most = leb-true (length bs) n (and_right (ltb 0 (length bs)) (leb (length bs) n) a);
      all = and_right (ltb 0 (length bs) && leb (length bs) n) (all_digits bs) t.0;
      value = let g = t.1 in cc;
    }

pub digits← : (n : ℕ) (bs : List ℕ) {v : ℕ} → Digits n bs v → digits_of n bs ≡ Some v
unfolding digits_of
digits← n bs d = rw (lt-ltb 0 (length bs) d.some, le-leb (length bs) n d.most, d.all, d.value) refl

digit_lo : (b : ℕ) → is_digit b ≡ true → 48 ≤ b
digit_lo b d = leb-true 48 b (and_left (leb 48 b) (leb b 57) d)

pub digit_hi : (b : ℕ) → is_digit b ≡ true → b ≤ 57
digit_hi b d = leb-true b 57 (and_right (leb 48 b) (leb b 57) d)

-- ════ whole numbers
-- digits behind a number that is not 0 are its text's last
decimal_behind : (k v : ℕ) (bs : List ℕ) → 0 < v → all_digits bs ≡ true → decimal (k + length bs) (value_of v bs) ≡ decimal k v ++ bs
unfolding all_digits value_of
decimal_behind k v [] h d = let e : k + 0 ≡ k = omega arith in rw (e, append-nil (decimal k v)) refl
decimal_behind k v (b ∷ bs) h d =
    let i = and_left (is_digit b) (all_digits bs) d in
    let lo = digit_lo b i in
    let hi = digit_hi b i in
    let m = v * 10 + (b - 48) in
    let q : m / 10 ≡ v = omega arith in
    let r : digit_of m ≡ b = omega arith in
    let shift : k + suc (length bs) ≡ suc k + length bs = omega arith in
    ap (λ (j : ℕ). decimal j (value_of m bs)) shift
    ∙ decimal_behind (suc k) m bs (omega arith) (and_right (is_digit b) (all_digits bs) d)
    ∙ ap (λ (l : List ℕ). l ++ bs) (decimal_more k m (omega arith) ∙ ap₂ (λ (x y : ℕ). decimal k x ++ (y ∷ [])) q r)
    ∙ append_assoc (decimal k v) (b ∷ []) bs

plain : (bs : List ℕ) {v : ℕ} → zero_in_front bs ≡ false → Digits 5 bs v → bs ≡ count_text v
unfolding count_text zero_in_front all_digits value_of
plain [] z d = absurd (omega (arith, d.some))
plain (b ∷ []) {v} z d =
    let i = and_left (is_digit b) true d.all in
    let lo = digit_lo b i in
    let hi = digit_hi b i in
    let e : v ≡ b - 48 = omega (arith, d.value) in
    let r : b ≡ digit_of v = omega arith in
    ap (λ (c : ℕ). c ∷ []) r ∙ sym (decimal_one 19 v (omega arith))
plain (b ∷ c ∷ cs) {v} z d =
    let i = and_left (is_digit b) (all_digits (c ∷ cs)) d.all in
    let lo = digit_lo b i in
    let hi = digit_hi b i in
    let n = eqb-false b 48 (rw (lt-ltb 1 (length (b ∷ c ∷ cs)) (omega arith)) at z) in
    let k = 19 - length (c ∷ cs) in
    let m : 0 < b - 48 = ⊎_elim (λ h. h) (λ h. absurd (n (omega arith))) (less_or_not 0 (b - 48)) in
    let r : digit_of (b - 48) ≡ b = omega arith in
    let first : 0 * 10 + (b - 48) ≡ b - 48 = omega arith in
    let s : k + length (c ∷ cs) ≡ 19 = omega (arith, d.most) in
    sym
    (ap₂ decimal (sym s) (sym d.value ∙ ap (λ (x : ℕ). value_of x (c ∷ cs)) first)
    ∙ decimal_behind k (b - 48) (c ∷ cs) m (and_right (is_digit b) (all_digits (c ∷ cs)) d.all)
    ∙ ap (λ (l : List ℕ). l ++ (c ∷ cs)) (decimal_one k (b - 48) (omega arith) ∙ ap (λ (x : ℕ). x ∷ []) r))

-- a whole number's text is the only one
pub whole_only : (bs : List ℕ) {v : ℕ} → whole_of bs ≡ Some v → bs ≡ count_text v
unfolding whole_of
whole_only bs e = let t = only_unless (zero_in_front bs) e in plain bs t.0 (digits→ 5 bs t.1)

-- no zero stands in front
front : (k n : ℕ) → 0 < n → n < 10 ^ suc k → get_or (decimal k n) 0 0 ≡ 48 → ⊥
front k n h l e =
    (by_digits (λ k n ds. 0 < n → n < 10 ^ suc k → (0 < length ds) × (get_or ds 0 0 ≡ 48 → ⊥))
    (λ k n one h l. (omega arith, λ z. let s = one l in omega (arith, z))) more k n h l).1 e
  where
    more : (k n : ℕ) (ds : List ℕ) → 10 ≤ n → (0 < n / 10 → n / 10 < 10 ^ suc k → (0 < length ds) × (get_or ds 0 0 ≡ 48 → ⊥)) →
        0 < n → n < 10 ^ suc (suc k) → (0 < length (ds ++ (digit_of n ∷ []))) × (get_or (ds ++ (digit_of n ∷ [])) 0 0 ≡ 48 → ⊥)
    more k n ds s f h l =
        let g = f (omega arith) (tenth (suc k) n l) in
        (rw (length_more ds (digit_of n)) (omega arith), λ z. g.1 (sym (get_or-append ds (digit_of n ∷ []) 0 0 g.0) ∙ z))

no_zero : (n : ℕ) → n < 100000 → zero_in_front (count_text n) ≡ false
unfolding zero_in_front count_text
no_zero n h =
    ⊎_elim (λ s. rw (decimal_one 19 n s) refl)
    (λ s. rw (ne_eqb (get_or (decimal 19 n) 0 0) 48 (front 19 n (omega arith) (omega arith))) (and-false (ltb 1 (length (decimal 19 n)))))
    (less_or_not n 10)

pub count_digits : (n : ℕ) → n < 100000 → Digits 5 (count_text n) n
unfolding count_text
count_digits n h = record {
  some = count_some n;
  most = decimal_length 19 4 n (omega arith);
  all = all_digits_lem n;
  value = count_value n (omega arith);
}

pub whole_back : (n : ℕ) → n < 100000 → whole_of (count_text n) ≡ Some n
unfolding whole_of
whole_back n h = rw (no_zero n h) (digits← 5 (count_text n) (count_digits n h))

-- ════ behind the point
value_split : (v : ℕ) (bs : List ℕ) → value_of v bs ≡ v * 10 ^ length bs + value_of 0 bs
unfolding value_of
value_split v [] = omega arith
value_split v (b ∷ bs) =
    let d = b - 48 in
    value_split (v * 10 + d) bs ∙ rw (pow-suc 10 (length bs), value_split (0 * 10 + d) bs) (omega arith)

-- the first digit, and what stands behind it
value_first : (b : ℕ) (bs : List ℕ) → value_of 0 (b ∷ bs) ≡ (b - 48) * 10 ^ length bs + value_of 0 bs
unfolding value_of
value_first b bs = value_split (0 * 10 + (b - 48)) bs ∙ omega arith

zero_value : value_of 0 [] < 10 ^ 0
unfolding value_of
zero_value = omega arith

pub value_less : (bs : List ℕ) → all_digits bs ≡ true → value_of 0 bs < 10 ^ length bs
unfolding all_digits
value_less [] d = zero_value
value_less (b ∷ bs) d =
    let i = and_left (is_digit b) (all_digits bs) d in
    let m : b - 48 ≤ 9 = omega (arith, digit_hi b i) in
    rw (value_first b bs, pow-suc 10 (length bs)) (omega (arith, mul-le-mul_right (10 ^ length bs) m, value_less bs (and_right (is_digit b) (all_digits bs) d)))

pub power_some : (n : ℕ) → 0 < 10 ^ n
power_some n = omega (arith, one-le-pow n 10 (omega arith))

-- the last digit no zero: so the value is not 0 either
value_some : (b : ℕ) (bs : List ℕ) → all_digits (b ∷ bs) ≡ true → (get_or (b ∷ bs) (length bs) 0 ≡ 48 → ⊥) → 0 < value_of 0 (b ∷ bs)
unfolding all_digits
value_some b [] d n =
    let lo = digit_lo b (and_left (is_digit b) true d) in
    rw (value_first b []) (⊎_elim (λ h. omega (arith, h)) (λ h. absurd (n (omega arith))) (less_or_not 0 (b - 48)))
value_some b (c ∷ cs) d n =
    rw (value_first b (c ∷ cs)) (omega (arith, value_some c cs (and_right (is_digit b) (all_digits (c ∷ cs)) d) n))

pub none_left : (k : ℕ) → fraction_digits k 0 ≡ []
unfolding fraction_digits
none_left zero = refl
none_left (suc k) = refl

none_at : (k f : ℕ) → f ≤ 0 → fraction_digits k f ≡ []
none_at k f h = let z : f ≡ 0 = omega arith in ap (fraction_digits k) z ∙ none_left k

pub digit_next_lem : (k f : ℕ) → 0 < f → fraction_digits (suc k) f ≡ (48 + f * 10 / 4096) ∷ fraction_digits k (f * 10 % 4096)
unfolding fraction_digits
digit_next_lem k f h = rw (ne_eqb f 0 (λ e. omega (arith, h, e))) refl

-- the last of the bytes is no zero, if there is one
abbrev NoZero : List ℕ → Type 0
NoZero bs = get_or bs (length bs - 1) 0 ≡ 48 → ⊥

last_of : (x : ℕ) (xs : List ℕ) → 0 < length xs → get_or (x ∷ xs) (length (x ∷ xs) - 1) 0 ≡ get_or xs (length xs - 1) 0
last_of x [] h = absurd (omega (arith, h))
last_of x (y ∷ ys) h =
    let e : suc (suc (length ys)) - 1 ≡ suc (length ys) = omega arith in
    let g : suc (length ys) - 1 ≡ length ys = omega arith in
    rw (e, g) refl

-- digits that make f/4096 are those of the long division
division : (k f : ℕ) (bs : List ℕ) → length bs ≤ k → all_digits bs ≡ true → NoZero bs → f * 10 ^ length bs ≡ value_of 0 bs * 4096 → fraction_digits k f ≡ bs
unfolding all_digits value_of
division k f [] m d n e = let z : f ≡ 0 = omega (arith, e) in rw z (none_left k)
division zero f (b ∷ bs) m d n e = absurd (omega (arith, m))
division (suc k) f (b ∷ bs) m d n e =
    let i = and_left (is_digit b) (all_digits bs) d in
    let ds = and_right (is_digit b) (all_digits bs) d in
    let lo = digit_lo b i in
    let q = b - 48 in
    let p = 10 ^ length bs in
    let pp = power_some (length bs) in
    let v = value_of 0 bs in
    let one : suc (length bs) - 1 ≡ length bs = omega arith in
    let some = value_some b bs d (λ (z : get_or (b ∷ bs) (length bs) 0 ≡ 48). n (rw one z)) in
    let e1 : f * (p * 10) ≡ (q * p + v) * 4096 = ap (λ (x : ℕ). f * x) (sym (pow-suc 10 (length bs))) ∙ e ∙ ap (λ (x : ℕ). x * 4096) (value_first b bs) in
    let vp = value_less bs ds in
    let le : q * 4096 ≤ f * 10 = le_of_mul-le-mul_right {m = q * 4096} {n = f * 10} {k = p} (omega (arith, e1)) pp in
    let r = f * 10 - q * 4096 in
    let e2 : f * 10 ≡ q * 4096 + r = omega (arith, le) in
    let e3 : r * p ≡ v * 4096 = omega (arith, e1, ap (λ (x : ℕ). x * p) e2) in
    let rl : r < 4096 = lt_of_mul-lt-mul_right p {m = r} {n = 4096} (omega (arith, e3, vp)) in
    let fs : 0 < f = ⊎_elim (λ h. h) (λ h. absurd (omega (arith, some, e1, value_first b bs, ap (λ (x : ℕ). x * (p * 10)) (zeroed f h)))) (less_or_not 0 f) in
    let eq : 48 + f * 10 / 4096 ≡ b = omega (arith, e2, rl, lo) in
    let er : f * 10 % 4096 ≡ r = omega (arith, e2, rl) in
    digit_next_lem k f fs
    ∙ ap₂ (λ (x y : ℕ). x ∷ fraction_digits k y) eq er
    ∙ ap (λ (l : List ℕ). b ∷ l) (division k r bs (omega (arith, m)) ds (behind_no n) e3)
  where
    zeroed : (f : ℕ) → f ≤ 0 → f ≡ 0
    zeroed f h = omega arith

    behind_no : NoZero (b ∷ bs) → NoZero bs
    behind_no n z = ⊎_elim (λ h. n (last_of b bs h ∙ z)) (λ h. none bs h z) (less_or_not 0 (length bs))
      where
        none : (bs : List ℕ) → length bs ≤ 0 → get_or bs (length bs - 1) 0 ≡ 48 → ⊥
        none [] h z = omega (arith, z)
        none (c ∷ cs) h z = omega (arith, h)

-- the text behind a point is the only one
pub record Fraction (bs : List ℕ) (f : ℕ) : Type 0 where
  pub some : 0 < f
  pub less : f < 4096
  pub only : fraction_digits 12 f ≡ bs

ths→ : (p : ℕ) (x : Option ℕ) {f : ℕ} → ths_of p x ≡ Some f → (v : ℕ) → x ≡ Some v → f * p ≡ v * 4096
unfolding ths_of
ths→ p None e v g = cc
ths→ p (Some u) {f} e v g =
    let t = only_if (eqb (u * 4096 % p) 0) e in
    let z = eqb-true (u * 4096 % p) 0 t.0 in
    let q : u * 4096 / p ≡ f = let h = t.1 in cc in
    let w : u ≡ v = cc in
    ap (λ (x : ℕ). x * p) (sym q) ∙ omega (arith, div-add-mod' (u * 4096) p, z) ∙ ap (λ (x : ℕ). x * 4096) w

ths_some : (p : ℕ) (x : Option ℕ) {f : ℕ} → ths_of p x ≡ Some f → (v : ℕ) × (x ≡ Some v)
unfolding ths_of
ths_some p None e = cc
ths_some p (Some u) e = (u, refl)

pub fraction→ : (bs : List ℕ) {f : ℕ} → fraction_of bs ≡ Some f → Fraction bs f
unfolding fraction_of zero_behind
fraction→ bs {f} e =
    let t = only_unless (eqb (get_or bs (length bs - 1) 0) 48) e in
    let s = ths_some (10 ^ length bs) (digits_of 12 bs) t.1 in
    let d = digits→ 12 bs s.1 in
    let g : f * 10 ^ length bs ≡ value_of 0 bs * 4096 =
    ths→ (10 ^ length bs) (digits_of 12 bs) t.1 s.0 s.1 ∙ ap (λ (x : ℕ). x * 4096) (sym d.value) in
    let n : NoZero bs = eqb-false (get_or bs (length bs - 1) 0) 48 t.0 in
    record {
      some = filled bs d.some d.all n g;
      less = lt_of_mul-lt-mul_right (10 ^ length bs) {m = f} {n = 4096} (omega (arith, g, value_less bs d.all));
      only = division 12 f bs d.most d.all n g;
    }
  where
    filled : (bs : List ℕ) → 0 < length bs → all_digits bs ≡ true → NoZero bs → f * 10 ^ length bs ≡ value_of 0 bs * 4096 → 0 < f
    filled [] h d n g = absurd (omega (arith, h))
    filled (b ∷ bs) h d n g =
        let one : suc (length bs) - 1 ≡ length bs = omega arith in
        let some = value_some b bs d (λ (z : get_or (b ∷ bs) (length bs) 0 ≡ 48). n (rw one z)) in
        ⊎_elim (λ k. k) (λ k. let z : f ≡ 0 = omega arith in absurd (omega (arith, some, g, ap (λ (x : ℕ). x * 10 ^ suc (length bs)) z))) (less_or_not 0 f)

-- ════ long division
pub no_room : (f : ℕ) → fraction_digits 0 f ≡ []
unfolding fraction_digits
no_room f = refl

-- what is left after a digit comes out even in a digit less
pub rest_even : (k f q : ℕ) → f * 10 ^ suc k ≡ q * 4096 → f * 10 % 4096 * 10 ^ k ≡ (q - f * 10 / 4096 * 10 ^ k) * 4096
rest_even k f q e =
    let p = 10 ^ k in
    let d = f * 10 / 4096 in
    let r = f * 10 % 4096 in
    let e1 : f * (p * 10) ≡ q * 4096 = ap (λ (x : ℕ). f * x) (sym (pow-suc 10 k)) ∙ e in
    let e2 : f * 10 ≡ d * 4096 + r = omega arith in
    omega (arith, e1, ap (λ (x : ℕ). x * p) e2)

pub even_none : (f q : ℕ) → f < 4096 → f * 10 ^ 0 ≡ q * 4096 → f ≡ 0
even_none f q l e = omega (arith, l, e)

-- the digits, behind the number v, make v and f/4096
abbrev Makes : ℕ → ℕ → ℕ → Type 0
Makes k f v = value_of v (fraction_digits k f) * 4096 ≡ (v * 4096 + f) * 10 ^ length (fraction_digits k f)

makes_none : (k f v : ℕ) → fraction_digits k f ≡ [] → f ≡ 0 → Makes k f v
unfolding value_of
makes_none k f v e z = rw e (omega (arith, z))

makes_more : (k f v : ℕ) → 0 < f → Makes k (f * 10 % 4096) (v * 10 + (48 + f * 10 / 4096 - 48)) → Makes (suc k) f v
unfolding value_of
makes_more k f v h i =
    let d = f * 10 / 4096 in
    let r = f * 10 % 4096 in
    let rest = fraction_digits k r in
    let p = 10 ^ length rest in
    let s : (v * 10 + (48 + d - 48)) * 4096 + r ≡ (v * 4096 + f) * 10 = omega arith in
    rw (digit_next_lem k f h, pow-suc 10 (length rest)) (i ∙ omega (arith, ap (λ (x : ℕ). x * p) s))

division_value : (k f q v : ℕ) → f < 4096 → f * 10 ^ k ≡ q * 4096 → Makes k f v
division_value zero f q v l e = makes_none zero f v (no_room f) (even_none f q l e)
division_value (suc k) f q v l e =
    let d = f * 10 / 4096 in
    ⊎_elim (λ h. makes_more k f v h (division_value k (f * 10 % 4096) (q - d * 10 ^ k) (v * 10 + (48 + d - 48)) (omega arith) (rest_even k f q e)))
    (λ h. makes_none (suc k) f v (none_at (suc k) f h) (omega arith))
    (less_or_not 0 f)

division_digits : (k f : ℕ) → f < 4096 → all_digits (fraction_digits k f) ≡ true
unfolding all_digits
division_digits zero f l = rw (no_room f) refl
division_digits (suc k) f l =
    let d = 48 + f * 10 / 4096 in
    ⊎_elim
    (λ h. rw (digit_next_lem k f h) (and_both (and_both (le-leb 48 d (omega arith)) (le-leb d 57 (omega arith)))
    (division_digits k (f * 10 % 4096) (omega arith))))
    (λ h. rw (none_at (suc k) f h) refl)
    (less_or_not 0 f)

pub division_length : (k f : ℕ) → length (fraction_digits k f) ≤ k
division_length zero f = rw (no_room f) (omega arith)
division_length (suc k) f =
    ⊎_elim (λ h. rw (digit_next_lem k f h) (omega (arith, division_length k (f * 10 % 4096))))
    (λ h. rw (none_at (suc k) f h) (omega arith))
    (less_or_not 0 f)

division_some : (k f q : ℕ) → 0 < f → f < 4096 → f * 10 ^ k ≡ q * 4096 → 0 < length (fraction_digits k f)
division_some zero f q h l e = absurd (omega (arith, h, even_none f q l e))
division_some (suc k) f q h l e = rw (digit_next_lem k f h) (omega arith)

division_last : (k f q : ℕ) → 0 < f → f < 4096 → f * 10 ^ k ≡ q * 4096 → NoZero (fraction_digits k f)
division_last zero f q h l e z = absurd (omega (arith, h, even_none f q l e))
division_last (suc k) f q h l e z =
    let d = f * 10 / 4096 in
    let r = f * 10 % 4096 in
    let i = rest_even k f q e in
    let g : get_or ((48 + d) ∷ fraction_digits k r) (length ((48 + d) ∷ fraction_digits k r) - 1) 0 ≡ 48 = rw (digit_next_lem k f h) at z in
    ⊎_elim
    (λ s. let some = division_some k r (q - d * 10 ^ k) s (omega arith) i in
    division_last k r (q - d * 10 ^ k) s (omega arith) i (sym (last_of (48 + d) (fraction_digits k r) some) ∙ g))
    (λ s. let n : r ≡ 0 = omega arith in omega (arith, last_one (48 + d) (fraction_digits k r) (none_at k r s) g))
    (less_or_not 0 r)
  where
    last_one : (x : ℕ) (xs : List ℕ) → xs ≡ [] → get_or (x ∷ xs) (length (x ∷ xs) - 1) 0 ≡ 48 → x ≡ 48
    last_one x xs e g = rw e at g

-- and so they are read back
pub fraction_back : (f : ℕ) → 0 < f → f < 4096 → fraction_of (fraction_digits 12 f) ≡ Some f
unfolding fraction_of zero_behind ths_of
fraction_back f h l =
    let bs = fraction_digits 12 f in
    let q = f * 244140625 in
    let e : f * 10 ^ 12 ≡ q * 4096 = omega arith in
    let m = division_value 12 f q 0 l e in
    let p = 10 ^ length bs in
    let g : value_of 0 bs * 4096 ≡ f * p = m ∙ ap (λ (x : ℕ). x * p) (plain0 f) in
    let d : Digits 12 bs (value_of 0 bs) =
    record { some = division_some 12 f q h l e; most = division_length 12 f; all = division_digits 12 f l; value = refl } in
    let n = ne_eqb (get_or bs (length bs - 1) 0) 48 (division_last 12 f q h l e) in
    rw (n, digits← 12 bs d, g, mul-mod_left f p, mul-div_cancel f (power_some (length bs))) refl
  where
    plain0 : (f : ℕ) → 0 * 4096 + f ≡ f
    plain0 f = omega arith

-- ════ the bytes in front of one
-- no byte is b
unfoldable pub free : ℕ → List ℕ → Bool
free b [] = true
free b (c ∷ cs) = not (eqb c b) && free b cs

pub free_digits : (b : ℕ) (bs : List ℕ) → b < 48 → all_digits bs ≡ true → free b bs ≡ true
unfolding free all_digits
free_digits b [] h d = refl
free_digits b (c ∷ cs) h d =
    let lo = digit_lo c (and_left (is_digit c) (all_digits cs) d) in
    and_both (ap not (ne_eqb c b (λ e. omega (arith, lo, h, e)))) (free_digits b cs h (and_right (is_digit c) (all_digits cs) d))

pub free_both : (b : ℕ) (xs ys : List ℕ) → free b xs ≡ true → free b ys ≡ true → free b (xs ++ ys) ≡ true
unfolding free
free_both b [] ys d e = e
free_both b (x ∷ xs) ys d e = and_both (and_left (not (eqb x b)) (free b xs) d) (free_both b xs ys (and_right (not (eqb x b)) (free b xs) d) e)

pub before_all : (b : ℕ) (xs : List ℕ) → free b xs ≡ true → before b xs ≡ xs
unfolding before free
before_all b [] d = refl
before_all b (x ∷ xs) d =
    rw (not-true (eqb x b) (and_left (not (eqb x b)) (free b xs) d))
    (ap (λ (l : List ℕ). x ∷ l) (before_all b xs (and_right (not (eqb x b)) (free b xs) d)))

pub before_at : (b : ℕ) (xs ys : List ℕ) → free b xs ≡ true → before b (xs ++ (b ∷ ys)) ≡ xs
unfolding before free
before_at b [] ys d = rw (eq-eqb b b refl) refl
before_at b (x ∷ xs) ys d =
    rw (not-true (eqb x b) (and_left (not (eqb x b)) (free b xs) d))
    (ap (λ (l : List ℕ). x ∷ l) (before_at b xs ys (and_right (not (eqb x b)) (free b xs) d)))

pub has_none : (b : ℕ) (xs : List ℕ) → free b xs ≡ true → has b xs ≡ false
has_none b xs d = rw (before_all b xs d) (le-ltb (length xs) (length xs) (omega arith))

pub has_at : (b : ℕ) (xs ys : List ℕ) → free b xs ≡ true → has b (xs ++ (b ∷ ys)) ≡ true
has_at b xs ys d = rw (before_at b xs ys d) (lt-ltb (length xs) (length (xs ++ (b ∷ ys))) (simp length-append (omega arith)))

pub behind_at : (b : ℕ) (xs ys : List ℕ) → free b xs ≡ true → behind b (xs ++ (b ∷ ys)) ≡ ys
behind_at b xs ys d =
    rw (before_at b xs ys d)
    (ap (λ (l : List ℕ). drop (suc (length xs)) l) (sym (append_assoc xs (b ∷ []) ys))
    ∙ drop_at (xs ++ (b ∷ [])) ys (suc (length xs)) (length_more xs b))

-- a text with a b is what stands in front of it, the b, and what stands behind
parts : (b : ℕ) (xs : List ℕ) → length (before b xs) < length xs → xs ≡ before b xs ++ (b ∷ drop (suc (length (before b xs))) xs)
unfolding before
parts b [] h = absurd (omega (arith, h))
parts b (x ∷ xs) h =
    ⊎_elim (λ e. rw e (ap (λ (y : ℕ). y ∷ xs) (eqb-true x b e)))
    (λ e. let g = rw e at h in rw e (ap (λ (l : List ℕ). x ∷ l) (parts b xs (omega (arith, g)))))
    (true_or_false (eqb x b))

pub split : (b : ℕ) (xs : List ℕ) → has b xs ≡ true → xs ≡ before b xs ++ (b ∷ behind b xs)
split b xs t = parts b xs (ltb-true (length (before b xs)) (length xs) t)

-- ════ gains
pub record Summed (x y : Option ℕ) (w : ℕ) : Type 0 where
  pub n : ℕ
  pub f : ℕ
  pub left : x ≡ Some n
  pub right : y ≡ Some f
  pub total : n * 4096 + f ≡ w

sum→ : (x y : Option ℕ) {w : ℕ} → sum x y ≡ Some w → Summed x y w
unfolding sum
sum→ None y e = cc
sum→ (Some n) None e = cc
sum→ (Some n) (Some f) e = record { n = n; f = f; left = refl; right = refl; total = cc }

pub gain_plain : (n f w : ℕ) → f ≡ 0 → n * 4096 + f ≡ w → gain_text w ≡ count_text n
unfolding gain_text fraction_text
gain_plain n f w z e =
    let q : w / 4096 ≡ n = omega (arith, z, e) in
    let r : w % 4096 ≡ 0 = omega (arith, z, e) in
    rw (q, r) (append-nil (count_text n))

pub gain_point : (n f w : ℕ) → 0 < f → f < 4096 → n * 4096 + f ≡ w → gain_text w ≡ count_text n ++ (46 ∷ fraction_digits 12 f)
unfolding gain_text fraction_text
gain_point n f w h l e =
    let q : w / 4096 ≡ n = omega (arith, l, e) in
    let r : w % 4096 ≡ f = omega (arith, l, e) in
    rw (q, r, ne_eqb f 0 (λ z. omega (arith, z, h))) refl

-- a gain's text is the only one
pub gain_only : (bs : List ℕ) {w : ℕ} → gain_of bs ≡ Some w → bs ≡ gain_text w
unfolding gain_of
gain_only bs {w} e =
    ⊎_elim (λ t. let s = sum→ (whole_of (before 46 bs)) (fraction_of (behind 46 bs)) (rw t at e) in
    let g = fraction→ (behind 46 bs) s.right in
    split 46 bs t
    ∙ ap₂ (λ (x y : List ℕ). x ++ (46 ∷ y)) (whole_only (before 46 bs) s.left) (sym g.only)
    ∙ sym (gain_point s.n s.f w g.some g.less s.total))
    (λ t. let s = sum→ (whole_of bs) (Some 0) (rw t at e) in
    let z : s.f ≡ 0 = let r = s.right in cc in
    whole_only bs s.left ∙ sym (gain_plain s.n s.f w z s.total))
    (true_or_false (has 46 bs))

pub gain_back : (w : ℕ) → w < 409600000 → gain_of (gain_text w) ≡ Some w
unfolding gain_of sum
gain_back w h =
    let n = w / 4096 in
    let f = w % 4096 in
    let e : n * 4096 + f ≡ w = omega arith in
    let c = whole_back n (omega arith) in
    let free46 = free_digits 46 (count_text n) (omega arith) (count_digits n (omega arith)).all in
    ⊎_elim
    (λ s. let l : f < 4096 = omega arith in
    let t = count_text n in
    let ds = fraction_digits 12 f in
    rw (gain_point n f w s l e, has_at 46 t ds free46, behind_at 46 t ds free46, before_at 46 t ds free46, c, fraction_back f s l) (ap Some e))
    (λ s. let z : f ≡ 0 = omega arith in
    let g : n * 4096 + 0 ≡ w = omega (arith, z, e) in
    rw (gain_plain n f w z e, has_none 46 (count_text n) free46, c) (ap Some g))
    (less_or_not 0 f)

-- ════ values
pub power_most : (i k : ℕ) → i ≤ k → 10 ^ i ≤ 10 ^ k
power_most i k h = pow-le-pow_right (omega arith) h

pub whole_less : (s : List ℕ) (n : ℕ) → whole_of s ≡ Some n → n < 100000
unfolding whole_of
whole_less s n e =
    let d = digits→ 5 s (only_unless (zero_in_front s) e).1 in
    omega (arith, d.value, value_less s d.all, power_most (length s) 5 d.most)

gain_less : (bs : List ℕ) (w : ℕ) → gain_of bs ≡ Some w → w < 409600000
unfolding gain_of
gain_less bs w e =
    ⊎_elim (λ t. let s = sum→ (whole_of (before 46 bs)) (fraction_of (behind 46 bs)) (rw t at e) in
    omega (arith, s.total, whole_less (before 46 bs) s.n s.left, (fraction→ (behind 46 bs) s.right).less))
    (λ t. let s = sum→ (whole_of bs) (Some 0) (rw t at e) in
    let z : s.f ≡ 0 = let r = s.right in cc in
    omega (arith, s.total, whole_less bs s.n s.left))
    (true_or_false (has 46 bs))

pub value_top : (gain : Bool) (bs : List ℕ) (w : ℕ) → number_of gain bs ≡ Some w → w < top gain
unfolding number_of
value_top true bs w e = gain_less bs w e
value_top false bs w e = whole_less bs w e

pub value_only : (gain : Bool) (bs : List ℕ) {w : ℕ} → number_of gain bs ≡ Some w → bs ≡ value_text gain w
unfolding number_of value_text
value_only true bs e = gain_only bs e
value_only false bs e = whole_only bs e

pub value_back : (gain : Bool) (w : ℕ) → w < top gain → number_of gain (value_text gain w) ≡ Some w
unfolding number_of value_text
value_back true w h = gain_back w h
value_back false w h = whole_back w h

free_count : (b n : ℕ) → b < 48 → free b (count_text n) ≡ true
free_count b n h = free_digits b (count_text n) h (all_digits_lem n)

-- the texts that are values are the texts of the numbers that a value can be
pub value_exact : (gain : Bool) (bs : List ℕ) (w : ℕ) → (number_of gain bs ≡ Some w) ↔ ((w < top gain) × (bs ≡ value_text gain w))
value_exact gain bs w = (λ e. (value_top gain bs w e, value_only gain bs e), λ h. ap (number_of gain) h.1 ∙ value_back gain w h.0)

-- only digits and a point
pub value_free : (b : ℕ) (gain : Bool) (w : ℕ) → b < 46 → free b (value_text gain w) ≡ true
unfolding value_text gain_text fraction_text free
value_free b false w h = free_count b w (omega arith)
value_free b true w h =
    let ds = free_digits b (fraction_digits 12 (w % 4096)) (omega arith) (division_digits 12 (w % 4096) (omega arith)) in
    free_both b (count_text (w / 4096)) _ (free_count b (w / 4096) (omega arith))
    (⊎_elim (λ e. rw e refl) (λ e. rw e (and_both (ap not (ne_eqb 46 b (λ z. omega (arith, z, h)))) ds)) (true_or_false (eqb (w % 4096) 0)))
