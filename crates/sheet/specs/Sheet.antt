-- The sheet (docs/RULES.md, "The sheet"): its text, what a text is read as, and what is written where.
use Rattle.std.specs.Prelude.{ℕ, ◌+◌, Bool, true, false, cond, ◌&&◌, Option, Some, None, Result, Ok, Err, eqb, leb}
use Rattle.std.specs.Prelude.{List, [], ◌∷◌, ◌++◌, ℤ, pos, nat_abs, length, drop}
use Rattle.settings.specs.declared.Settings.{Settings}
use Rattle.settings.specs.Settings.{accepted, refusal}
use Rattle.settings.specs.Words.{Entry, entries, key, words_of, settings_of}
use Rattle.writing.specs.Decimal.{written}
use Rattle.fixed.specs.Refusal.{reason}
use Rattle.sheet.specs.declared.Unread.{Unread}
use Rattle.sheet.specs.declared.Unwritten.{Unwritten}
use Rattle.sheet.specs.declared.Unread.TheVariants.{Refused, Faulty}
use Rattle.sheet.specs.declared.Unwritten.TheVariants.{Barred, Short}
use Rattle.values.specs.Value.{value_text, number_of, before, has, behind}

-- ════ its text
-- a name, an equals sign, a value and a line feed (10)
unfoldable pub line_text : Entry → ℕ → List ℕ
line_text e w = key e ++ (value_text e.gain w ++ (10 ∷ []))

-- a line for each entry and its word
unfoldable pub lines_text : List Entry → List ℤ → List ℕ
lines_text [] zs = []
lines_text (e ∷ es) [] = []
lines_text (e ∷ es) (z ∷ zs) = line_text e (nat_abs z) ++ lines_text es zs

unfoldable pub sheet_text : Settings → List ℕ
sheet_text s = lines_text entries (words_of s)

-- ════ read
-- whether bs begin with ns
unfoldable pub starts : List ℕ → List ℕ → Bool
starts [] bs = true
starts (n ∷ ns) [] = false
starts (n ∷ ns) (b ∷ bs) = eqb n b && starts ns bs

-- a line without its line feed: name=value
unfoldable pub line_of : Entry → List ℕ → Option ℕ
line_of e bs = cond (starts (key e) bs) (number_of e.gain (drop (length (key e)) bs)) None

-- the first line of a text: it is ended by a line feed
unfoldable pub first_of : Entry → List ℕ → Option ℕ
first_of e bs = cond (has 10 bs) (line_of e (before 10 bs)) None

-- the words of all lines, or the first faulty line
pub data Words : Type 0 where
  words : List ℤ → Words
  faulty : ℕ → Words

-- w in front
unfoldable pub and_then : ℕ → Words → Words
and_then w (words zs) = words (pos w ∷ zs)
and_then w (faulty i) = faulty i

unfoldable pub with_first : ℕ → Option ℕ → Words → Words
with_first i None ls = faulty i
with_first i (Some w) ls = and_then w ls

-- a text whose first line has the number i, and should be the first of these entries'
unfoldable pub read_lines : ℕ → List Entry → List ℕ → Words
read_lines i [] [] = words []
read_lines i [] (b ∷ bs) = faulty i
read_lines i (e ∷ es) bs = with_first i (first_of e bs) (read_lines (i + 1) es (behind 10 bs))

-- the settings that stand in the lines, whether they are accepted or not
unfoldable pub settings_in : Words → Result Settings ℕ
settings_in (words zs) = Ok (settings_of zs)
settings_in (faulty i) = Err i

unfoldable pub lines_of : List ℕ → Result Settings ℕ
lines_of bs = settings_in (read_lines 1 entries bs)

-- numbers 1 to 5 follow the reading
unfoldable pub judged : Settings → Result Settings Unread
judged s = cond (accepted s) (Ok s) (Err (Refused (reason (refusal s))))

unfoldable pub outcome : Result Settings ℕ → Result Settings Unread
outcome (Ok s) = judged s
outcome (Err i) = Err (Faulty i)

unfoldable pub read_sheet : List ℕ → Result Settings Unread
read_sheet bs = outcome (lines_of bs)

-- ════ written into room for n bytes: numbers 1 to 5, then 18, else the sheet's length
unfoldable pub wrote : Settings → ℕ → Result ℕ Unwritten
wrote s n = cond (accepted s) (cond (leb (length (sheet_text s)) n) (Ok (length (sheet_text s))) (Err Short)) (Err (Barred (reason (refusal s))))

-- what stands in the room afterwards: it is touched only where the sheet is written whole
unfoldable pub sheet_in : Settings → List ℕ → List ℕ
sheet_in s out = cond (accepted s && leb (length (sheet_text s)) (length out)) (written out 0 (sheet_text s)) out
