-- An input of bytes as lines of numbers: where it is cut, which of its lines are good, and what comes of those one after the other.
use Rattle.std.specs.Prelude.{ℕ, ◌+◌, min, Bool, true, false, cond, List, [], ◌∷◌, ◌++◌, eqb, ℤ}
use Rattle.std.proofs.Math.Option.{Option, none, some}
use Rattle.text.specs.Grammar.{line_of}

-- ════ the lines of an input
-- w and then bs, cut at each line feed (10): the lines that one ends, each without it
unfoldable pub lines_of : List ℕ → List ℕ → List (List ℕ)
lines_of w [] = []
lines_of w (b ∷ bs) = cond (eqb b 10) (w ∷ lines_of [] bs) (lines_of (w ++ (b ∷ [])) bs)

-- and what stands behind the last line feed
unfoldable pub rest_of : List ℕ → List ℕ → List ℕ
rest_of w [] = w
rest_of w (b ∷ bs) = cond (eqb b 10) (rest_of [] bs) (rest_of (w ++ (b ∷ [])) bs)

-- whether there is a byte
unfoldable pub any : List ℕ → Bool
any [] = false
any (b ∷ bs) = true

-- ════ the good ones
-- a line, given without its line feed, is good if it has numbers and they fit: these
unfoldable pub if_fits : (List ℤ → Bool) → Option (List ℤ) → Option (List ℤ)
if_fits fits none = none
if_fits fits (some zs) = cond (fits zs) (some zs) none

unfoldable pub good_in : (List ℤ → Bool) → List ℕ → Option (List ℤ)
good_in fits w = if_fits fits (line_of w)

-- the numbers of each line, up to the first that is not good
unfoldable pub good_then : Option (List ℤ) → List (List ℤ) → List (List ℤ)
good_then none more = []
good_then (some zs) more = zs ∷ more

unfoldable pub good_of : (List ℤ → Bool) → List (List ℕ) → List (List ℤ)
good_of fits [] = []
good_of fits (w ∷ ws) = good_then (good_in fits w) (good_of fits ws)

-- whether a bad line ends them: one that is not good, or bytes behind the last line feed, whatever they read
unfoldable pub bad_or : Option (List ℤ) → Bool → Bool
bad_or none later = true
bad_or (some zs) later = later

unfoldable pub bad_of : (List ℤ → Bool) → List (List ℕ) → List ℕ → Bool
bad_of fits [] rest = any rest
bad_of fits (w ∷ ws) rest = bad_or (good_in fits w) (bad_of fits ws rest)

-- the same of an input
abbrev pub good_lines : (List ℤ → Bool) → List ℕ → List (List ℤ)
good_lines fits input = good_of fits (lines_of [] input)

abbrev pub ends_bad : (List ℤ → Bool) → List ℕ → Bool
ends_bad fits input = bad_of fits (lines_of [] input) (rest_of [] input)

-- ════ what comes of them: what t is after each, and what they are answered
unfoldable pub after_all : {T : Type 0} → (T → List ℤ → T) → T → List (List ℤ) → T
after_all after t [] = t
after_all after t (l ∷ ls) = after_all after (after t l) ls

unfoldable pub answers_to : {T : Type 0} → (T → List ℤ → T) → (T → List ℤ → List ℕ) → T → List (List ℤ) → List ℕ
answers_to after answer t [] = []
answers_to after answer t (l ∷ ls) = answer t l ++ answers_to after answer (after t l) ls

-- a count of lines, held at the end of 64 bits, which no input reaches; and one more
abbrev pub held_count : ℕ → ℕ
held_count n = min n 18446744073709551615

abbrev pub one_more : ℕ → ℕ
one_more n = held_count (n + 1)
