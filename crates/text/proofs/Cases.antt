-- The grammar at written bytes; the checker computes each.
-- Assumes nothing.
use mathlib.Core.Path.{◌≡◌, refl}
use mathlib.Core.List.{[], ◌∷◌}
use mathlib.Core.Option.{none, some}
use lib.IntN.{pos, neg_ℤ}
use Rattle.text.specs.Grammar.{all_digits, value_of, digits_of, fitting, number_of, words_in, both, numbers_of, line_of}

-- -007, -0, 00012, and the greatest and the least number of 32 bits
numbers :
    (number_of (45 ∷ 48 ∷ 48 ∷ 55 ∷ []) ≡ some (neg_ℤ (pos 7)))
    × (number_of (45 ∷ 48 ∷ []) ≡ some (pos 0))
    × (number_of (48 ∷ 48 ∷ 48 ∷ 49 ∷ 50 ∷ []) ≡ some (pos 12))
    × (number_of (50 ∷ 49 ∷ 52 ∷ 55 ∷ 52 ∷ 56 ∷ 51 ∷ 54 ∷ 52 ∷ 55 ∷ []) ≡ some (pos 2147483647))
    × (number_of (45 ∷ 50 ∷ 49 ∷ 52 ∷ 55 ∷ 52 ∷ 56 ∷ 51 ∷ 54 ∷ 52 ∷ 56 ∷ []) ≡ some (neg_ℤ (pos 2147483648)))
unfolding number_of digits_of all_digits value_of fitting
numbers = (refl, refl, refl, refl, refl)

-- +5, no byte, -, --1, 1-, one past the greatest and the least number, and 18446744073709551621 = 2^64 + 5
no_numbers :
    (number_of (43 ∷ 53 ∷ []) ≡ none)
    × (number_of [] ≡ none)
    × (number_of (45 ∷ []) ≡ none)
    × (number_of (45 ∷ 45 ∷ 49 ∷ []) ≡ none)
    × (number_of (49 ∷ 45 ∷ []) ≡ none)
    × (number_of (50 ∷ 49 ∷ 52 ∷ 55 ∷ 52 ∷ 56 ∷ 51 ∷ 54 ∷ 52 ∷ 56 ∷ []) ≡ none)
    × (number_of (45 ∷ 50 ∷ 49 ∷ 52 ∷ 55 ∷ 52 ∷ 56 ∷ 51 ∷ 54 ∷ 52 ∷ 57 ∷ []) ≡ none)
    × (number_of (49 ∷ 56 ∷ 52 ∷ 52 ∷ 54 ∷ 55 ∷ 52 ∷ 52 ∷ 48 ∷ 55 ∷ 51 ∷ 55 ∷ 48 ∷ 57 ∷ 53 ∷ 53 ∷ 49 ∷ 54 ∷ 50 ∷ 49 ∷ []) ≡ none)
unfolding number_of digits_of all_digits value_of fitting
no_numbers = (refl, refl, refl, refl, refl, refl, refl, refl)

-- 0 0 0; and no line: two spaces, a space behind, a space in front, no byte, a carriage return, a tab, a NUL
lines :
    (line_of (48 ∷ 32 ∷ 48 ∷ 32 ∷ 48 ∷ []) ≡ some (pos 0 ∷ pos 0 ∷ pos 0 ∷ []))
    × (line_of (48 ∷ 32 ∷ 32 ∷ 48 ∷ []) ≡ none)
    × (line_of (48 ∷ 32 ∷ []) ≡ none)
    × (line_of (32 ∷ 48 ∷ []) ≡ none)
    × (line_of [] ≡ none)
    × (line_of (49 ∷ 13 ∷ []) ≡ none)
    × (line_of (49 ∷ 9 ∷ 49 ∷ []) ≡ none)
    × (line_of (0 ∷ []) ≡ none)
unfolding line_of words_in numbers_of both number_of digits_of all_digits value_of fitting
lines = (refl, refl, refl, refl, refl, refl, refl, refl)
