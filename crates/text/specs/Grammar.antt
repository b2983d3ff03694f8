-- What is read: lines of numbers, in bytes. A line is given without the line feed that ends it.
--     line      numbers, at least one, with exactly one space (32) between
--     number    a minus sign (45) or none, then digits; its value fits 32 bits
--     digits    at least one of 48..57, any zeros in front
use Rattle.std.specs.Prelude.{ℕ, ◌+◌, ◌-◌, ◌*◌, Bool, true, false, cond, ◌&&◌, List, [], ◌∷◌, ◌++◌, leb, eqb, ℤ, pos, neg_ℤ}
use Rattle.std.proofs.Math.Option.{Option, none, some}
use Rattle.fixed.specs.Fixed.{within}

-- ════ a number
-- whether a byte is a digit
abbrev pub is_digit : ℕ → Bool
is_digit b = leb 48 b && leb b 57

unfoldable pub all_digits : List ℕ → Bool
all_digits [] = true
all_digits (b ∷ bs) = is_digit b && all_digits bs

-- the value of digits that follow the value n: each makes ten of what stands before it
unfoldable pub value_of : ℕ → List ℕ → ℕ
value_of n [] = n
value_of n (b ∷ bs) = value_of (n * 10 + (b - 48)) bs

-- digits, at least one: their value
unfoldable pub digits_of : List ℕ → Option ℕ
digits_of [] = none
digits_of (b ∷ bs) = cond (all_digits (b ∷ bs)) (some (value_of 0 (b ∷ bs))) none

-- −n with a minus sign, n without
abbrev pub signed : Bool → ℕ → ℤ
signed true n = neg_ℤ (pos n)
signed false n = pos n

-- the least and the greatest number of 32 bits
abbrev pub least : ℤ
least = neg_ℤ (pos 2147483648)

abbrev pub greatest : ℤ
greatest = pos 2147483647

-- a value that fits 32 bits
unfoldable pub fitting : Bool → Option ℕ → Option ℤ
fitting minus none = none
fitting minus (some n) = cond (within least greatest (signed minus n)) (some (signed minus n)) none

-- a minus sign or none, then digits; the value fits 32 bits
unfoldable pub number_of : List ℕ → Option ℤ
number_of [] = none
number_of (b ∷ bs) = cond (eqb b 45) (fitting true (digits_of bs)) (fitting false (digits_of (b ∷ bs)))

-- ════ a line
-- w and then bs, cut at each space into words: two spaces, or one at an end, leave an empty word
unfoldable pub words_in : List ℕ → List ℕ → List (List ℕ)
words_in w [] = w ∷ []
words_in w (b ∷ bs) = cond (eqb b 32) (w ∷ words_in [] bs) (words_in (w ++ (b ∷ [])) bs)

unfoldable pub both : Option ℤ → Option (List ℤ) → Option (List ℤ)
both none zs = none
both (some z) none = none
both (some z) (some zs) = some (z ∷ zs)

-- words that are numbers, every one
unfoldable pub numbers_of : List (List ℕ) → Option (List ℤ)
numbers_of [] = some []
numbers_of (w ∷ ws) = both (number_of w) (numbers_of ws)

-- the numbers of a line
unfoldable pub line_of : List ℕ → Option (List ℤ)
line_of bs = numbers_of (words_in [] bs)
