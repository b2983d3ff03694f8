-- The definitions at written bytes; the checker computes each.
-- Assumes nothing.
use mathlib.Core.Path.{◌≡◌, refl}
use mathlib.Core.List.{List, [], ◌∷◌, map}
use Prim.Native.Nat.{ℕ}
use Rattle.text.specs.Grammar.{all_digits, value_of}
use Rattle.writing.specs.Decimal.{decimal, count_text}
use Rattle.std.specs.Prelude.{Option, Some, None}
use Rattle.values.specs.Value.{fraction_digits, fraction_text, gain_text, digits_of, zero_in_front, whole_of, zero_behind, ths_of, fraction_of, before, sum}
use Rattle.values.specs.Value.{gain_of}

-- ════ values
wholes_texts : List (List ℕ)
wholes_texts =
    (48 ∷ [])
    ∷ (57 ∷ 57 ∷ 57 ∷ 57 ∷ 57 ∷ [])
    ∷ (49 ∷ 48 ∷ 48 ∷ 48 ∷ 48 ∷ 48 ∷ [])
    ∷ (48 ∷ 48 ∷ [])
    ∷ (48 ∷ 53 ∷ [])
    ∷ ([])
    ∷ (45 ∷ 49 ∷ [])
    ∷ (43 ∷ 49 ∷ [])
    ∷ (49 ∷ 32 ∷ [])
    ∷ (49 ∷ 46 ∷ 53 ∷ [])
    ∷ (49 ∷ 44 ∷ 50 ∷ 53 ∷ 48 ∷ [])
    ∷ []

wholes_numbers : List (Option ℕ)
wholes_numbers = Some 0 ∷ Some 99999 ∷ None ∷ None ∷ None ∷ None ∷ None ∷ None ∷ None ∷ None ∷ None ∷ []

-- 0; 99999; 100000; 00; 05; nothing; -1; +1; 1 ; 1.5; 1,250
wholes : map whole_of wholes_texts ≡ wholes_numbers
unfolding wholes_texts wholes_numbers gain_of whole_of fraction_of digits_of zero_in_front zero_behind ths_of sum before all_digits value_of
wholes = refl

gains_texts : List (List ℕ)
gains_texts =
    (48 ∷ [])
    ∷ (50 ∷ [])
    ∷ (48 ∷ 46 ∷ 53 ∷ [])
    ∷ (48 ∷ 46 ∷ 48 ∷ 48 ∷ 48 ∷ 50 ∷ 52 ∷ 52 ∷ 49 ∷ 52 ∷ 48 ∷ 54 ∷ 50 ∷ 53 ∷ [])
    ∷ (57 ∷ 57 ∷ 57 ∷ 57 ∷ 57 ∷ 46 ∷ 57 ∷ 57 ∷ 57 ∷ 55 ∷ 53 ∷ 53 ∷ 56 ∷ 53 ∷ 57 ∷ 51 ∷ 55 ∷ 53 ∷ [])
    ∷ (48 ∷ 46 ∷ 48 ∷ 48 ∷ 48 ∷ 49 ∷ [])
    ∷ (49 ∷ 46 ∷ 48 ∷ [])
    ∷ (49 ∷ 46 ∷ 53 ∷ 48 ∷ [])
    ∷ (49 ∷ 46 ∷ [])
    ∷ (46 ∷ 53 ∷ [])
    ∷ (46 ∷ [])
    ∷ (49 ∷ 44 ∷ 50 ∷ 53 ∷ [])
    ∷ (49 ∷ 44 ∷ 50 ∷ 53 ∷ 48 ∷ [])
    ∷ (49 ∷ 46 ∷ 53 ∷ 46 ∷ 53 ∷ [])
    ∷ (48 ∷ 48 ∷ 46 ∷ 53 ∷ [])
    ∷ (45 ∷ 48 ∷ 46 ∷ 53 ∷ [])
    ∷ (43 ∷ 48 ∷ 46 ∷ 53 ∷ [])
    ∷ (48 ∷ 46 ∷ 48 ∷ 48 ∷ 48 ∷ 49 ∷ 50 ∷ 50 ∷ 48 ∷ 55 ∷ 48 ∷ 51 ∷ 49 ∷ 50 ∷ 53 ∷ [])
    ∷ (49 ∷ 48 ∷ 48 ∷ 48 ∷ 48 ∷ 48 ∷ 46 ∷ 53 ∷ [])
    ∷ []

gains_numbers : List (Option ℕ)
gains_numbers =
    Some 0 ∷ Some 8192 ∷ Some 2048 ∷ Some 1 ∷ Some 409599999
    ∷ None ∷ None ∷ None ∷ None ∷ None ∷ None ∷ None ∷ None ∷ None ∷ None ∷ None ∷ None ∷ None ∷ None ∷ []

-- 0; 2; 0.5; 0.000244140625; 99999.999755859375; 0.0001; 1.0; 1.50; 1.; .5; .; 1,25; 1,250; 1.5.5; 00.5; -0.5; +0.5; 0.0001220703125; 100000.5
gains : map gain_of gains_texts ≡ gains_numbers
unfolding gains_texts gains_numbers gain_of whole_of fraction_of digits_of zero_in_front zero_behind ths_of sum before all_digits value_of
gains = refl

-- 0 is 0; 8192 is 2; 2048 is 0.5; 64 is 0.015625; 1 is 0.000244140625; 409599999 is 99999.999755859375
values : List ℕ
values = 0 ∷ 8192 ∷ 2048 ∷ 64 ∷ 1 ∷ 409599999 ∷ []

values_texts : List (List ℕ)
values_texts =
    (48 ∷ [])
    ∷ (50 ∷ [])
    ∷ (48 ∷ 46 ∷ 53 ∷ [])
    ∷ (48 ∷ 46 ∷ 48 ∷ 49 ∷ 53 ∷ 54 ∷ 50 ∷ 53 ∷ [])
    ∷ (48 ∷ 46 ∷ 48 ∷ 48 ∷ 48 ∷ 50 ∷ 52 ∷ 52 ∷ 49 ∷ 52 ∷ 48 ∷ 54 ∷ 50 ∷ 53 ∷ [])
    ∷ (57 ∷ 57 ∷ 57 ∷ 57 ∷ 57 ∷ 46 ∷ 57 ∷ 57 ∷ 57 ∷ 55 ∷ 53 ∷ 53 ∷ 56 ∷ 53 ∷ 57 ∷ 51 ∷ 55 ∷ 53 ∷ [])
    ∷ []

values_written : map gain_text values ≡ values_texts
unfolding values values_texts gain_text count_text decimal fraction_text fraction_digits
values_written = refl
