-- What the program sheet says of a text (docs/RULES.md, "The program sheet").
use Rattle.std.specs.Prelude.{ℕ, zero, suc, ◌+◌, ◌-◌, Bool, cond, ◌&&◌, List, [], ◌∷◌, ◌++◌, ltb, leb, ℤ, pos, nat_abs, length, get_or, take, Result, Ok, Err}
use Rattle.fixed.specs.Fixed.{is_in, within}
use Rattle.settings.specs.declared.Settings.{Settings}
use Rattle.settings.specs.Settings.{accepted, refusal, tied}
use Rattle.settings.specs.Words.{Entry, entries, entry_at, key, size, words_of}
use Rattle.writing.specs.Decimal.{count_text}
use Rattle.values.specs.Value.{value_text, before, has, behind}
use Rattle.sheet.specs.Sheet.{sheet_text, lines_of}
use Rattle.findings.specs.Phrases as say

-- ════ a faulty line
-- what should stand in line i, counted from 0: its name, an equals sign and a value of its kind; behind the last line nothing
unfoldable pub kind_text : Bool → List ℕ
kind_text gain = cond gain say.gain_kind say.whole_kind

unfoldable pub expected_text : ℕ → List ℕ
expected_text i = cond (ltb i size) (key (entry_at i) ++ kind_text (entry_at i).gain) say.the_end

-- a byte as it is shown: one outside 32..126 is a question mark (63)
abbrev pub shown_byte : ℕ → ℕ
shown_byte b = cond (leb 32 b && leb b 126) b 63

unfoldable pub shown : List ℕ → List ℕ
shown [] = []
shown (b ∷ bs) = shown_byte b ∷ shown bs

-- a line in quotes (34), its first 40 bytes where it has more
unfoldable pub quoted : List ℕ → List ℕ
quoted line = ((34 ∷ []) ++ shown (take 40 line)) ++ (34 ∷ [])

-- what is said of its end
unfoldable pub end_text : List ℕ → List ℕ
end_text bs = cond (ltb 40 (length (before 10 bs))) say.and_more (cond (has 10 bs) [] say.without_feed)

-- what stands there
unfoldable pub found_text : List ℕ → List ℕ
found_text bs = cond (ltb 0 (length bs)) (quoted (before 10 bs) ++ end_text bs) say.nothing

-- a text from its line i on, counted from 0
unfoldable pub from_line : ℕ → List ℕ → List ℕ
from_line zero bs = bs
from_line (suc i) bs = from_line i (behind 10 bs)

-- line i, counted from 1, where this stands
unfoldable pub fault_text : ℕ → List ℕ → List ℕ
fault_text i bs =
    (((((say.line17 ++ count_text i) ++ say.expected) ++ expected_text (i - 1)) ++ say.found) ++ found_text bs) ++ (10 ∷ [])

-- ════ refused settings
-- a word and its value, as on a sheet
unfoldable pub is_text : Entry → ℕ → List ℕ
is_text e w = (e.name ++ say.is) ++ value_text e.gain w

-- the ends of its range
unfoldable pub ends_text : Entry → List ℕ
ends_text e = (value_text e.gain e.range.lo ++ say.to) ++ value_text e.gain e.range.hi

unfoldable pub range_text : Entry → ℤ → List ℕ
range_text e z = (is_text e (nat_abs z) ++ say.must_be) ++ ends_text e

-- two words by their names
unfoldable pub product_text : Entry → Entry → List ℕ
product_text a b = (a.name ++ say.times) ++ b.name

unfoldable pub times_text : Entry → Entry → Entry → ℤ → List ℕ
times_text e a b z = (is_text e (nat_abs z) ++ say.must_be) ++ product_text a b

-- how many words stand in front of the first that is out of its range
unfoldable pub first_out : List Entry → List ℤ → ℕ
first_out [] zs = 0
first_out (e ∷ es) [] = 0
first_out (e ∷ es) (z ∷ zs) = cond (is_in e.range z) (suc (first_out es zs)) 0

unfoldable pub out_text : List ℤ → ℕ → List ℕ
out_text zs i = cond (ltb i size) (range_text (entry_at i) (get_or zs i (pos 0))) []

-- the place of the Kp of the gain set that does not hold together: the speed's (1), or else the current's (4); Kcor and Ki stand behind it
unfoldable pub untied_at : Settings → ℕ
untied_at s = cond (tied s.skp s.skcor s.ski) 4 1

unfoldable pub untied_text : List ℤ → ℕ → List ℕ
untied_text zs k = times_text (entry_at (k + 2)) (entry_at k) (entry_at (k + 1)) (get_or zs (k + 2) (pos 0))

unfoldable pub reason_text : Settings → ℤ → List ℕ
reason_text s n = cond (within (pos 3) (pos 3) n) (untied_text (words_of s) (untied_at s)) (out_text (words_of s) (first_out entries (words_of s)))

unfoldable pub refused_text : Settings → ℤ → List ℕ
refused_text s n = ((count_text (nat_abs n) ++ say.colon) ++ reason_text s n) ++ (10 ∷ [])

-- ════ what is written
unfoldable pub accepted_text : Settings → List ℕ
accepted_text s = say.accepted ++ sheet_text s

unfoldable pub judged_text : Settings → List ℕ
judged_text s = cond (accepted s) (accepted_text s) (refused_text s (refusal s))

unfoldable pub told_text : List ℕ → Result Settings ℕ → List ℕ
told_text bs (Ok s) = judged_text s
told_text bs (Err i) = fault_text i (from_line (i - 1) bs)

unfoldable pub answer_text : List ℕ → List ℕ
answer_text bs = told_text bs (lines_of bs)
