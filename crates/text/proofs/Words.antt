-- The word automaton reads the grammar (`word_reads`): after any bytes, what it holds is the number that `number_of` says, or none.
-- Assumes nothing.
use mathlib.Core.Path.{◌≡◌, refl}
use mathlib.Core.Bool.{Bool, true, false, cond, ◌||◌, and-false, or-true}
use mathlib.Core.List.{List, [], ◌∷◌, ◌++◌}
use mathlib.Core.Option.{Option, none, some}
use Prim.Native.Nat.{ℕ, ◌+◌, ◌-◌, ◌*◌, ◌<◌, min}
use native.Mathlib.Omega.{arith}
use lib.Dec.{eqb}
use lib.IntN.{ℤ, pos, neg_ℤ}
use borrow.Author.Tests.{eqb-true}
use Rattle.fixed.proofs.Parts.{order, P-neg, N-neg}
use Rattle.fixed.specs.Fixed.{held, within}
use Rattle.fixed.proofs.HeldLaws.{held_inside, within_lo, within_hi}
use Rattle.text.specs.Grammar.{is_digit, all_digits, value_of, digits_of, signed, least, greatest, fitting, number_of}
use Rattle.text.specs.Automaton.{word_start, digit_next, other_next, word_next, word_after, word_signed, word_ok, word_value}
use Rattle.text.specs.declared.Word.{Word}
use Rattle.fixed.proofs.Choice.{by_test, by_order}

-- what a word is
pub word_number : Word → Option ℤ
word_number w = cond (word_ok w) (some (word_value w)) none

-- ════ a word that is bad stays so, and is no number
bad_next : (w : Word) (b : ℕ) → w.bad ≡ true → (word_next w b).bad ≡ true
unfolding word_next digit_next other_next
bad_next w b h = by_test (is_digit b) (λ d. rw d h) (λ d. rw (d, h))

bad_after : (w : Word) (bs : List ℕ) → w.bad ≡ true → word_number (word_after w bs) ≡ none
unfolding word_after word_number word_ok
bad_after w [] h = rw (h, and-false w.digits)
bad_after w (b ∷ bs) h = bad_after (word_next w b) bs (bad_next w b h)

-- ════ the value that is held stands for the true one: it is that, or neither fits
abbrev Stands : ℕ → ℕ → Type 0
Stands v n = min v 2147483649 ≡ min n 2147483649

stands_next : (v n d : ℕ) → Stands v n → Stands (min v 214748365 * 10 + d) (n * 10 + d)
stands_next v n d s = omega arith

-- a value above 2147483648 fits with neither sign
too_large : (m : Bool) (n : ℕ) → 2147483648 < n → within least greatest (signed m n) ≡ false
too_large true n h =
    by_test _ (λ e. absurd (omega (arith, order, within_lo least greatest (neg_ℤ (pos n)) e, P-neg (pos n), N-neg (pos n)))) (λ e. e)
too_large false n h = by_test _ (λ e. absurd (omega (arith, order, within_hi least greatest (pos n) e))) (λ e. e)

-- within 32 bits the held number is the number
held_some : (z : ℤ) → cond (within least greatest z) (some (held z least greatest)) none ≡ cond (within least greatest z) (some z) none
held_some z =
    by_test (within least greatest z)
    (λ e. rw (e, held_inside z least greatest (within_lo least greatest z e) (within_hi least greatest z e))) (λ e. rw e)

-- ════ a word that is not bad
abbrev going : Bool → Bool → ℕ → Word
going m t v = record { minus = m; digits = t; bad = false; value = v }

-- what the automaton answers of it
answers : (m t : Bool) (v n : ℕ) → Stands v n → word_number (going m t v) ≡ fitting m (cond t (some n) none)
unfolding word_number word_ok word_value word_signed fitting
answers m false v n s = refl
answers m true v n s =
    by_order 2147483648 n (λ h. rw (too_large m n h, too_large m (min v 4294967296) (omega arith)))
    (λ h. let e : min v 4294967296 ≡ n = omega arith in rw e (held_some (signed m n)))

-- the digits that follow the value n, at least one unless one came before (t): their value
more : Bool → ℕ → List ℕ → Option ℕ
more t n [] = cond t (some n) none
more t n (b ∷ bs) = cond (is_digit b) (more true (n * 10 + (b - 48)) bs) none

more_true : (n : ℕ) (bs : List ℕ) → more true n bs ≡ cond (all_digits bs) (some (value_of n bs)) none
unfolding more all_digits value_of
more_true n [] = refl
more_true n (b ∷ bs) = by_test (is_digit b) (λ d. rw d (more_true (n * 10 + (b - 48)) bs)) (λ d. rw d)

more_is : (bs : List ℕ) → more false 0 bs ≡ digits_of bs
unfolding more digits_of
more_is [] = refl
more_is (b ∷ bs) = more_true 0 (b ∷ bs)

-- ════ digits to the end, where a sign or a digit came: any other byte is one too many
run : (m t : Bool) (v n : ℕ) → Stands v n → m || t ≡ true → (bs : List ℕ) → word_number (word_after (going m t v) bs) ≡ fitting m (more t n bs)
unfolding word_after word_next digit_next other_next more fitting
run m t v n s h [] = answers m t v n s
run m t v n s h (b ∷ bs) =
    by_test (is_digit b)
    (λ d. rw d (run m true (min v 214748365 * 10 + (b - 48)) (n * 10 + (b - 48)) (stands_next v n (b - 48) s) (or-true m) bs))
    (λ d. rw d (bad_after (other_next (going m t v) b) bs (rw h)))

-- ════ the automaton is the grammar, for any bytes
pub word_reads : (bs : List ℕ) → word_number (word_after word_start bs) ≡ number_of bs
unfolding word_start word_after word_next digit_next other_next number_of more fitting
word_reads [] = answers false false 0 0 refl
word_reads (b ∷ bs) =
    by_test (eqb b 45) (λ e. rw (eqb-true b 45 e, ← more_is bs) (run true false 0 0 refl refl bs))
    (λ e. rw (e, ← more_is (b ∷ bs)) (by_test (is_digit b)
    (λ d. rw d (run false true (0 * 10 + (b - 48)) (0 * 10 + (b - 48)) refl refl bs))
    (λ d. rw d (bad_after (record { minus = true; digits = false; bad = true; value = 0 }) bs refl))))

-- the same in words: it says yes exactly of a number, and then has its value
pub word_good : (bs : List ℕ) → word_ok (word_after word_start bs) ≡ true → number_of bs ≡ some (word_value (word_after word_start bs))
unfolding word_number
word_good bs h = rw (← word_reads bs, h)

pub word_bad : (bs : List ℕ) → word_ok (word_after word_start bs) ≡ false → number_of bs ≡ none
unfolding word_number
word_bad bs h = rw (← word_reads bs, h)

-- one byte more at the end
pub after_more : (w : Word) (bs : List ℕ) (b : ℕ) → word_after w (bs ++ (b ∷ [])) ≡ word_next (word_after w bs) b
unfolding word_after
after_more w [] b = refl
after_more w (a ∷ bs) b = after_more (word_next w a) bs b
