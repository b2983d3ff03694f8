-- What the code does, byte by byte. That it reads what `Grammar` says is proved in `Words` and `Lines`, of proofs/.
use Rattle.std.specs.Prelude.{ℕ, ◌+◌, ◌-◌, ◌*◌, min, Bool, true, false, cond, not, ◌&&◌, ◌||◌, List, [], ◌∷◌, eqb, ltb, ℤ, length, set}
use Rattle.fixed.specs.Fixed.{held, within}
use Rattle.text.specs.Grammar.{is_digit, signed, least, greatest}
use Rattle.text.specs.declared.Word.{Word}
use Rattle.text.specs.declared.Line.{Line}

-- ════ a word
unfoldable pub word_start : Word
word_start = record { minus = false; digits = false; bad = false; value = 0 }

-- a digit more; a value of 214748365 or more stands for any such: ten times it fits 32 bits no more
unfoldable pub digit_next : Word → ℕ → Word
digit_next w b =
    record { minus = w.minus; digits = true; bad = w.bad; value = min w.value 214748365 * 10 + (b - 48) }

-- any other byte is good only as a minus sign, and that only in front
unfoldable pub other_next : Word → ℕ → Word
other_next w b =
    record { minus = true; digits = w.digits; bad = w.bad || w.minus || w.digits || not (eqb b 45); value = w.value }

unfoldable pub word_next : Word → ℕ → Word
word_next w b = cond (is_digit b) (digit_next w b) (other_next w b)

-- many bytes
unfoldable pub word_after : Word → List ℕ → Word
word_after w [] = w
word_after w (b ∷ bs) = word_after (word_next w b) bs

-- the number that was read, if the word was good; a value of 4294967296 or more stands for any such
unfoldable pub word_signed : Word → ℤ
word_signed w = signed w.minus (min w.value 4294967296)

unfoldable pub word_ok : Word → Bool
word_ok w = w.digits && not w.bad && within least greatest (word_signed w)

unfoldable pub word_value : Word → ℤ
word_value w = held (word_signed w) least greatest

-- ════ a line
unfoldable pub line_start : Line
line_start = record { word = word_start; count = 0; bad = false }

-- whether the word is a number, and there is room for it among n numbers
unfoldable pub takes : Line → ℕ → Bool
takes l n = word_ok l.word && ltb l.count n

abbrev pub line_more : Line → Line
line_more l = record { word = word_start; count = l.count + 1; bad = l.bad }

abbrev pub line_bad : Line → Line
line_bad l = record { word = word_start; count = l.count; bad = true }

-- the word has ended, by a space or by the line feed: its number goes to the next place, or the line is bad
unfoldable pub line_end : Line → ℕ → Line
line_end l n = cond (takes l n) (line_more l) (line_bad l)

unfoldable pub numbers_end : Line → List ℤ → List ℤ
numbers_end l ns = cond (takes l (length ns)) (set ns l.count (word_value l.word)) ns

-- a space ends the word, any other byte goes to it
abbrev pub line_on : Line → ℕ → Line
line_on l b = record { word = word_next l.word b; count = l.count; bad = l.bad }

unfoldable pub line_next : Line → ℕ → ℕ → Line
line_next l b n = cond (eqb b 32) (line_end l n) (line_on l b)

unfoldable pub numbers_next : Line → ℕ → List ℤ → List ℤ
numbers_next l b ns = cond (eqb b 32) (numbers_end l ns) ns

-- ════ a line and the numbers beside it: one byte, many bytes, the end
pub record Reading : Type 0 where
  pub line : Line
  pub numbers : List ℤ

abbrev pub read_next : Reading → ℕ → Reading
read_next r b =
    record { line = line_next r.line b (length r.numbers); numbers = numbers_next r.line b r.numbers }

unfoldable pub read_all : Reading → List ℕ → Reading
read_all r [] = r
read_all r (b ∷ bs) = read_all (read_next r b) bs

abbrev pub read_end : Reading → Reading
read_end r = record { line = line_end r.line (length r.numbers); numbers = numbers_end r.line r.numbers }

-- a whole line, over the numbers o
unfoldable pub line_read : List ℤ → List ℕ → Reading
line_read o bs = read_end (read_all (record { line = line_start; numbers = o }) bs)
