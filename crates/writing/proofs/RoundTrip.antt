-- What is written is read back: the text of a number of 32 bits is that number's word, and that of numbers is their line.
-- Assumes nothing.
use mathlib.Core.Path.{◌≡◌, refl, ◌∙◌}
use mathlib.Core.Bool.{true, false}
use mathlib.Core.List.{List, [], ◌∷◌, ◌++◌, map, append_assoc, append-nil}
use mathlib.Core.Option.{some}
use Prim.Native.Nat.{ℕ, suc, ◌+◌, ◌-◌, ◌*◌, ◌^◌, ◌≤◌, ◌<◌}
use native.Mathlib.Omega.{arith}
use borrow.Author.Tests.{le-leb, ne_eqb, leb-true}
use lib.Dec.{leb}
use lib.IntN.{ℤ, pos, negsuc}
use lib.ListN.{length}
use mir.Syntax.{w32}
use mir.Val.{SFits}
use Rattle.fixed.specs.Fixed.{within}
use Rattle.fixed.proofs.Parts.{order}
use Rattle.fixed.proofs.Size.{fits_hi, fits_lo}
use Rattle.fixed.proofs.HeldLaws.{and_left, and_right, and_both, within_yes}
use Rattle.text.specs.Grammar.{is_digit, all_digits, value_of, digits_of, least, greatest, fitting, number_of, words_in, both, numbers_of, line_of}
use Rattle.writing.specs.Decimal.{digit_of, count_text, text_of, more_text, numbers_text}
use Rattle.writing.proofs.DecimalLaws.{by_digits, tenth, length_more}
use Rattle.writing.proofs.LineLaws.{AllFit, nil, cons}

-- ════ digits, and one more at the end
digit_good : (n : ℕ) → is_digit (digit_of n) ≡ true
digit_good n = and_both (le-leb 48 (digit_of n) (omega arith)) (le-leb (digit_of n) 57 (omega arith))

all_more : (bs : List ℕ) (b : ℕ) → all_digits bs ≡ true → is_digit b ≡ true → all_digits (bs ++ (b ∷ [])) ≡ true
unfolding all_digits
all_more [] b h d = and_both d refl
all_more (a ∷ bs) b h d = and_both (and_left (is_digit a) (all_digits bs) h) (all_more bs b (and_right (is_digit a) (all_digits bs) h) d)

value_more : (n : ℕ) (bs : List ℕ) (b : ℕ) → value_of n (bs ++ (b ∷ [])) ≡ value_of n bs * 10 + (b - 48)
unfolding value_of
value_more n [] b = refl
value_more n (a ∷ bs) b = value_more (n * 10 + (a - 48)) bs b

-- ════ a count
pub count_digits : (n : ℕ) → all_digits (count_text n) ≡ true
unfolding count_text all_digits
count_digits n =
    by_digits (λ k n ds. all_digits ds ≡ true) (λ k n e. and_both (digit_good n) refl) (λ k n ds l h. all_more ds (digit_of n) h (digit_good n)) 19 n

pub count_value : (n : ℕ) → n < 2 ^ 64 → value_of 0 (count_text n) ≡ n
unfolding count_text value_of
count_value n h =
    by_digits (λ k n ds. n < 10 ^ suc k → value_of 0 ds ≡ n) (λ k n e h. let l = e h in omega arith)
    (λ k n ds l f h. value_more 0 ds (digit_of n) ∙ omega (arith, f (tenth (suc k) n h))) 19 n (omega arith)

-- at least one digit
pub count_some : (n : ℕ) → 0 < length (count_text n)
unfolding count_text
count_some n =
    by_digits (λ k n ds. 0 < length ds) (λ k n e. omega arith) (λ k n ds l h. rw (length_more ds (digit_of n)) (omega arith)) 19 n

digits_of_lem : (bs : List ℕ) → 0 < length bs → all_digits bs ≡ true → digits_of bs ≡ some (value_of 0 bs)
unfolding digits_of
digits_of_lem [] h d = absurd (omega (arith, h))
digits_of_lem (b ∷ bs) h d = rw d

pub count_back : (n : ℕ) → n < 2 ^ 64 → digits_of (count_text n) ≡ some n
count_back n h = rw (digits_of_lem (count_text n) (count_some n) (count_digits n), count_value n h)

-- ════ a number
-- with digits in front there is no sign
no_sign : (bs : List ℕ) → all_digits bs ≡ true → number_of bs ≡ fitting false (digits_of bs)
unfolding number_of all_digits digits_of fitting
no_sign [] d = refl
no_sign (b ∷ bs) d =
    let h = leb-true 48 b (and_left (leb 48 b) (leb b 57) (and_left (is_digit b) (all_digits bs) d)) in
    rw (ne_eqb b 45 (λ e. omega arith))

in-range : (z : ℤ) → SFits w32 z → within least greatest z ≡ true
in-range z f = within_yes least greatest z (omega (arith, order, fits_lo w32 z f)) (omega (arith, order, fits_hi w32 z f))

pub round_trip : (z : ℤ) → SFits w32 z → number_of (text_of z) ≡ some z
unfolding text_of number_of fitting
round_trip (pos n) f =
    rw (no_sign (count_text n) (count_digits n), count_back n (omega (arith, f.sfits)), in-range (pos n) f)
round_trip (negsuc n) f = rw (count_back (suc n) (omega (arith, f.sfits)), in-range (negsuc n) f)

-- ════ a line
-- digits go to the word that is being cut, and so does a sign
cut_digits : (w ds bs : List ℕ) → all_digits ds ≡ true → words_in w (ds ++ bs) ≡ words_in (w ++ ds) bs
unfolding words_in all_digits
cut_digits w [] bs h = rw (append-nil w) refl
cut_digits w (d ∷ ds) bs h =
    let g = leb-true 48 d (and_left (leb 48 d) (leb d 57) (and_left (is_digit d) (all_digits ds) h)) in
    rw (ne_eqb d 32 (λ e. omega arith), cut_digits (w ++ (d ∷ [])) ds bs (and_right (is_digit d) (all_digits ds) h), append_assoc)

cut_text : (z : ℤ) (bs : List ℕ) → words_in [] (text_of z ++ bs) ≡ words_in (text_of z) bs
unfolding text_of words_in
cut_text (pos n) bs = cut_digits [] (count_text n) bs (count_digits n)
cut_text (negsuc n) bs = cut_digits (45 ∷ []) (count_text (suc n)) bs (count_digits (suc n))

-- each number is a word
cut_more : (w : List ℕ) (zs : List ℤ) → words_in w (more_text zs) ≡ w ∷ map text_of zs
unfolding more_text words_in
cut_more w [] = refl
cut_more w (z ∷ zs) = rw (cut_text z (more_text zs), cut_more (text_of z) zs)

words_back : {zs : List ℤ} → AllFit zs → numbers_of (map text_of zs) ≡ some zs
unfolding numbers_of both
words_back nil = refl
words_back (cons {z} {zs} f fs) = rw (round_trip z f, words_back fs) refl

-- the line without its line feed
pub line_back : {zs : List ℤ} → 1 ≤ length zs → AllFit zs → line_of (numbers_text zs) ≡ some zs
unfolding line_of numbers_text
line_back h nil = absurd (omega (arith, h))
line_back h (cons {z} {zs} f fs) = rw (cut_text z (more_text zs), cut_more (text_of z) zs) (words_back (cons f fs))
