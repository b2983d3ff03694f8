-- Numbers, counts and a line as text; the checker computes each.
-- Assumes nothing.
use mathlib.Core.Path.{◌≡◌, refl}
use mathlib.Core.List.{[], ◌∷◌}
use lib.IntN.{pos, neg_ℤ}
use Rattle.writing.specs.Decimal.{decimal, count_text, text_of, more_text, numbers_text, line_text}

-- 0, 10, -1, the greatest and the least number, the greatest count, and the line of 1 and -2
texts :
    (text_of (pos 0) ≡ 48 ∷ [])
    × (text_of (pos 10) ≡ 49 ∷ 48 ∷ [])
    × (text_of (neg_ℤ (pos 1)) ≡ 45 ∷ 49 ∷ [])
    × (text_of (pos 2147483647) ≡ 50 ∷ 49 ∷ 52 ∷ 55 ∷ 52 ∷ 56 ∷ 51 ∷ 54 ∷ 52 ∷ 55 ∷ [])
    × (text_of (neg_ℤ (pos 2147483648)) ≡ 45 ∷ 50 ∷ 49 ∷ 52 ∷ 55 ∷ 52 ∷ 56 ∷ 51 ∷ 54 ∷ 52 ∷ 56 ∷ [])
    × (count_text 18446744073709551615 ≡ 49 ∷ 56 ∷ 52 ∷ 52 ∷ 54 ∷ 55 ∷ 52 ∷ 52 ∷ 48 ∷ 55 ∷ 51 ∷ 55 ∷ 48 ∷ 57 ∷ 53 ∷ 53 ∷ 49 ∷ 54 ∷ 49 ∷ 53 ∷ [])
    × (line_text (pos 1 ∷ neg_ℤ (pos 2) ∷ []) ≡ 49 ∷ 32 ∷ 45 ∷ 50 ∷ 10 ∷ [])
unfolding line_text numbers_text more_text text_of count_text decimal
texts = (refl, refl, refl, refl, refl, refl, refl)
