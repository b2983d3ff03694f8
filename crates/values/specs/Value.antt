-- How a value of a sheet is written, and which texts are one.
--     whole number    one to five digits, no zero before another digit
--     gain            a whole number, and then nothing or a point (46) and one to twelve digits, the last of them no zero; all of it a
--                     whole number of 4096ths, which is its word
use Rattle.std.specs.Prelude.{ℕ, zero, suc, ◌+◌, ◌-◌, ◌*◌, ◌/◌, ◌%◌, ◌^◌, Bool, cond, ◌&&◌, Option, Some, None, eqb, ltb, leb}
use Rattle.std.specs.Prelude.{List, [], ◌∷◌, ◌++◌, length, get_or, drop}
use Rattle.text.specs.Grammar.{all_digits, value_of}
use Rattle.writing.specs.Decimal.{count_text}

-- ════ written
-- the digits of f/4096 behind the point, by long division until nothing is left, where k suffice
unfoldable pub fraction_digits : ℕ → ℕ → List ℕ
fraction_digits zero f = []
fraction_digits (suc k) f = cond (eqb f 0) [] ((48 + f * 10 / 4096) ∷ fraction_digits k (f * 10 % 4096))

-- a point and the digits, or nothing: 12 digits suffice, since 4096 divides 10^12
unfoldable pub fraction_text : ℕ → List ℕ
fraction_text f = cond (eqb f 0) [] (46 ∷ fraction_digits 12 f)

-- the gain of w 4096ths
unfoldable pub gain_text : ℕ → List ℕ
gain_text w = count_text (w / 4096) ++ fraction_text (w % 4096)

unfoldable pub value_text : Bool → ℕ → List ℕ
value_text gain w = cond gain (gain_text w) (count_text w)

-- ════ read
-- one to n digits: their number
unfoldable pub digits_of : ℕ → List ℕ → Option ℕ
digits_of n bs = cond (ltb 0 (length bs) && leb (length bs) n && all_digits bs) (Some (value_of 0 bs)) None

-- more than one byte, and the first is a zero (48)
unfoldable pub zero_in_front : List ℕ → Bool
zero_in_front bs = ltb 1 (length bs) && eqb (get_or bs 0 0) 48

unfoldable pub whole_of : List ℕ → Option ℕ
whole_of bs = cond (zero_in_front bs) None (digits_of 5 bs)

unfoldable pub zero_behind : List ℕ → Bool
zero_behind bs = eqb (get_or bs (length bs - 1) 0) 48

-- v/p as 4096ths, if that is a whole number of them
unfoldable pub ths_of : ℕ → Option ℕ → Option ℕ
ths_of p None = None
ths_of p (Some v) = cond (eqb (v * 4096 % p) 0) (Some (v * 4096 / p)) None

-- what stands behind the point
unfoldable pub fraction_of : List ℕ → Option ℕ
fraction_of bs = cond (zero_behind bs) None (ths_of (10 ^ length bs) (digits_of 12 bs))

-- the bytes in front of the first b; all of them where there is none
unfoldable pub before : ℕ → List ℕ → List ℕ
before b [] = []
before b (c ∷ cs) = cond (eqb c b) [] (c ∷ before b cs)

-- whether there is a b: then what stands in front of it is not all
abbrev pub has : ℕ → List ℕ → Bool
has b bs = ltb (length (before b bs)) (length bs)

-- what stands behind it
abbrev pub behind : ℕ → List ℕ → List ℕ
behind b bs = drop (suc (length (before b bs))) bs

unfoldable pub sum : Option ℕ → Option ℕ → Option ℕ
sum None f = None
sum (Some w) None = None
sum (Some w) (Some f) = Some (w * 4096 + f)

unfoldable pub gain_of : List ℕ → Option ℕ
gain_of bs = cond (has 46 bs) (sum (whole_of (before 46 bs)) (fraction_of (behind 46 bs))) (sum (whole_of bs) (Some 0))

unfoldable pub number_of : Bool → List ℕ → Option ℕ
number_of gain bs = cond gain (gain_of bs) (whole_of bs)

-- a value has five digits in front of the point at most: a gain's word is below 100000·4096
abbrev pub top : Bool → ℕ
top gain = cond gain 409600000 100000
