-- Laws of a number's text: its last digit, how long it is, and how its digits are counted and spelt.
-- Assumes nothing.
use mathlib.Core.Path.{◌≡◌, refl, ap, ◌∙◌}
use mathlib.Core.List.{List, [], ◌∷◌, ◌++◌}
use Prim.Native.Nat.{ℕ, zero, suc, ◌+◌, ◌*◌, ◌/◌, ◌^◌, max, ◌≤◌, ◌<◌}
use native.Mathlib.Nat.{pow-suc}
use native.Mathlib.Omega.{arith}
use borrow.Author.Tests.{lt-ltb, le-ltb}
use lib.IntN.{ℤ, pos, negsuc, nat_abs}
use lib.ListN.{length, length-append}
use lib.Signed.{◌≤ℤ◌, ◌<ℤ◌, clash_ℤ}
use mir.Syntax.{w32}
use mir.Val.{SFits}
use Rattle.fixed.proofs.Parts.{order}
use Rattle.writing.specs.Decimal.{digit_of, decimal, last_digits, count_text, text_of}
use Rattle.fixed.proofs.Choice.{by_order}

-- ════ one digit, or more
pub decimal_one : (k n : ℕ) → n < 10 → decimal k n ≡ digit_of n ∷ []
unfolding decimal
decimal_one zero n h = refl
decimal_one (suc k) n h = rw (lt-ltb n 10 h)

pub decimal_more : (k n : ℕ) → 10 ≤ n → decimal (suc k) n ≡ decimal k (n / 10) ++ (digit_of n ∷ [])
unfolding decimal
decimal_more k n h = rw (le-ltb n 10 h)

-- a fact of a number's text, from the text of one digit and a digit more at the end
pub by_digits : (Q : ℕ → ℕ → List ℕ → Type 0) → ((k n : ℕ) → (n < 10 ^ suc k → n < 10) → Q k n (digit_of n ∷ []))
    → ((k n : ℕ) (ds : List ℕ) → 10 ≤ n → Q k (n / 10) ds → Q (suc k) n (ds ++ (digit_of n ∷ []))) → (k n : ℕ) → Q k n (decimal k n)
unfolding decimal
by_digits Q one more zero n = one zero n (λ h. h)
by_digits Q one more (suc k) n =
    by_order n 10 (λ l. rw (lt-ltb n 10 l) (one (suc k) n (λ h. l)))
    (λ l. rw (le-ltb n 10 l) (more k n (decimal k (n / 10)) l (by_digits Q one more k (n / 10))))

-- ════ how long it is
-- one more at the end
pub length_more : (xs : List ℕ) (x : ℕ) → length (xs ++ (x ∷ [])) ≡ suc (length xs)
length_more xs x = simp length-append (omega arith)

-- a number of a digit less
pub tenth : (k n : ℕ) → n < 10 ^ suc k → n / 10 < 10 ^ k
tenth k n h = omega (arith, pow-suc 10 k)

pub decimal_length : (k j n : ℕ) → n < 10 ^ suc j → length (decimal k n) ≤ suc j
decimal_length k j n = by_digits (λ k n ds. (j : ℕ) → n < 10 ^ suc j → length ds ≤ suc j) (λ k n e j h. omega arith) more k n j
  where
    more : (k n : ℕ) (ds : List ℕ) → 10 ≤ n → ((j : ℕ) → n / 10 < 10 ^ suc j → length ds ≤ suc j) →
        (j : ℕ) → n < 10 ^ suc j → length (ds ++ (digit_of n ∷ [])) ≤ suc j
    more k n ds l f zero h = absurd (omega (arith, h))
    more k n ds l f (suc j) h = rw (length_more ds (digit_of n)) (omega (arith, f j (tenth (suc j) n h)))

-- 20 digits for a count, 10 and a sign for a number
pub count_length : (n : ℕ) → n < 2 ^ 64 → length (count_text n) ≤ 20
unfolding count_text
count_length n h = decimal_length 19 19 n (omega arith)

pub short_length : (n : ℕ) → n ≤ 2147483648 → length (count_text n) ≤ 10
unfolding count_text
short_length n h = decimal_length 19 9 n (omega arith)

pub text_length : (z : ℤ) → SFits w32 z → length (text_of z) ≤ 11
unfolding text_of
text_length (pos n) f = omega (arith, short_length n (omega (arith, f.sfits)))
text_length (negsuc n) f = omega (arith, short_length (suc n) (omega (arith, f.sfits)))

-- ════ its sign, and the digits of its size behind it
unfoldable pub sign : ℤ → List ℕ
sign (pos n) = []
sign (negsuc n) = 45 ∷ []

pub text_parts : (z : ℤ) → text_of z ≡ sign z ++ count_text (nat_abs z)
unfolding text_of sign
text_parts (pos n) = refl
text_parts (negsuc n) = refl

pub sign_length : (z : ℤ) → length (sign z) ≤ 1
unfolding sign
sign_length (pos n) = omega arith
sign_length (negsuc n) = omega arith

pub sign_minus : (z : ℤ) → z <ℤ pos 0 → sign z ≡ 45 ∷ []
unfolding sign
sign_minus (pos n) h = clash_ℤ h (omega (arith, order))
sign_minus (negsuc n) h = refl

pub sign_plain : (z : ℤ) → pos 0 ≤ℤ z → sign z ≡ []
unfolding sign
sign_plain (pos n) h = refl
sign_plain (negsuc n) h = absurd h.le

-- ════ as the code makes it: so many last digits
pub last_length : (k n : ℕ) → length (last_digits k n) ≡ k
unfolding last_digits
last_length zero n = refl
last_length (suc k) n = length_more (last_digits k (n / 10)) (digit_of n) ∙ ap suc (last_length k (n / 10))

pub count_is_last : (n : ℕ) → last_digits (length (count_text n)) n ≡ count_text n
unfolding count_text last_digits
count_is_last n =
    by_digits (λ k n ds. last_digits (length ds) n ≡ ds) (λ k n e. refl) (λ k n ds l e. rw (length_more ds (digit_of n), e)) 19 n

-- n has one digit more than the power of ten that it reaches
digits_more : (k j n : ℕ) → j ≤ k → 10 ^ j ≤ max n 1 → n < 10 ^ suc j → length (decimal k n) ≡ suc j
digits_more k zero n h l r = rw (decimal_one k n (omega arith)) refl
digits_more zero (suc j) n h l r = absurd (omega (arith, h))
digits_more (suc k) (suc j) n h l r =
    let m : 10 ≤ n = omega (arith, pow-suc 10 j) in
    let e = digits_more k j (n / 10) (omega arith) (omega (arith, pow-suc 10 j)) (tenth (suc j) n r) in
    rw (decimal_more k n m, length_more, e) refl

pub digits_of_power : (n j : ℕ) → 10 ^ j ≤ max n 1 → max n 1 < 10 * 10 ^ j → j < 20 → j + 1 ≡ length (count_text n)
unfolding count_text
digits_of_power n j l r h = omega (arith, digits_more 19 j n (omega arith) l (omega (arith, pow-suc 10 j)))
