-- What is written: a number as text, in bytes, and where it goes.
use Rattle.std.specs.Prelude.{ℕ, zero, suc, ◌+◌, ◌/◌, ◌%◌, cond, List, [], ◌∷◌, ◌++◌, ltb, ℤ, pos, negsuc, length, take, drop}

-- the last digit of n
abbrev pub digit_of : ℕ → ℕ
digit_of n = 48 + n % 10

-- the digits of n, the fewest there are and at least one, where k more than one suffice
unfoldable pub decimal : ℕ → ℕ → List ℕ
decimal zero n = digit_of n ∷ []
decimal (suc k) n = cond (ltb n 10) (digit_of n ∷ []) (decimal k (n / 10) ++ (digit_of n ∷ []))

-- the last k digits of n
unfoldable pub last_digits : ℕ → ℕ → List ℕ
last_digits zero n = []
last_digits (suc k) n = last_digits k (n / 10) ++ (digit_of n ∷ [])

-- a count as text: 20 digits hold every number of 64 bits
unfoldable pub count_text : ℕ → List ℕ
count_text n = decimal 19 n

-- a number as text: a minus sign (45) where it is negative, then its digits
unfoldable pub text_of : ℤ → List ℕ
text_of (pos n) = count_text n
text_of (negsuc n) = 45 ∷ count_text (suc n)

-- numbers that follow another: a space (32) in front of each
unfoldable pub more_text : List ℤ → List ℕ
more_text [] = []
more_text (z ∷ zs) = 32 ∷ (text_of z ++ more_text zs)

-- numbers as text, with one space between
unfoldable pub numbers_text : List ℤ → List ℕ
numbers_text [] = []
numbers_text (z ∷ zs) = text_of z ++ more_text zs

-- a line: numbers, and a line feed (10)
unfoldable pub line_text : List ℤ → List ℕ
line_text zs = numbers_text zs ++ (10 ∷ [])

-- `bad`, a space, the number of a line that is refused, and a line feed
unfoldable pub bad_text : ℕ → List ℕ
bad_text number = 98 ∷ 97 ∷ 100 ∷ 32 ∷ (count_text number ++ (10 ∷ []))

-- o with bs written over it from the place at on
unfoldable pub written : List ℕ → ℕ → List ℕ → List ℕ
written o at bs = take at o ++ (bs ++ drop (at + length bs) o)
