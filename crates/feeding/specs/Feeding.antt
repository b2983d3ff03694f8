-- The same byte by byte: what stands between two bytes, and what a byte makes of it. That it comes to what `Lines` says is proved in `Whole`.
use Rattle.std.specs.Prelude.{◌≡◌, ℕ, Bool, true, false, cond, not, ◌&&◌, List, [], ◌∷◌, ◌++◌, eqb, ℤ, take}
use Rattle.text.specs.Automaton.{line_start, Reading, read_next, read_end}

-- ════ the bytes of one line
-- the bytes up to a line feed (10), which ends the line, or all there are; and the bytes behind them
pub record Part : Type 0 where
  pub reading : Reading
  pub ended : Bool
  pub behind : List ℕ

unfoldable pub part_of : Reading → List ℕ → Part
part_of r [] = record { reading = r; ended = false; behind = [] }
part_of r (b ∷ bs) = cond (eqb b 10) (record { reading = read_end r; ended = true; behind = bs }) (part_of (read_next r b) bs)

-- ════ line after line
-- what goes from one line to the next; the line at hand, and whether a byte of it came; whether a bad line came
pub record Fed (T : Type 0) : Type 0 where
  pub kept : T
  pub reading : Reading
  pub begun : Bool
  pub stopped : Bool

-- before a line's first byte
abbrev pub line_at : List ℤ → Reading
line_at numbers = record { line = line_start; numbers = numbers }

abbrev pub line_due : {T : Type 0} → T → List ℤ → Fed T
line_due t numbers = record { kept = t; reading = line_at numbers; begun = false; stopped = false }

-- the numbers of a line that has ended, and whether it is good
abbrev pub front : Reading → List ℤ
front r = take r.line.count r.numbers

unfoldable pub is_good : (List ℤ → Bool) → Reading → Bool
is_good fits r = not r.line.bad && fits (front r)

-- a line has ended: as a good one, or as none
unfoldable pub end_fed : {T : Type 0} → (List ℤ → Bool) → (T → List ℤ → T) → T → Reading → Fed T
end_fed fits after t r = cond (is_good fits r) (line_due (after t (front r)) r.numbers) (record { kept = t; reading = r; begun = true; stopped = true })

unfoldable pub end_text : {T : Type 0} → (List ℤ → Bool) → (T → List ℤ → List ℕ) → T → Reading → List ℕ
end_text fits answer t r = cond (is_good fits r) (answer t (front r)) []

-- a byte: once stopped nothing is looked at; a line feed ends the line, any other byte goes to it
unfoldable pub byte_fed : {T : Type 0} → (List ℤ → Bool) → (T → List ℤ → T) → Fed T → ℕ → Fed T
byte_fed fits after s b =
    cond s.stopped s
    (cond (eqb b 10) (end_fed fits after s.kept (read_end s.reading))
    (record { kept = s.kept; reading = read_next s.reading b; begun = true; stopped = false }))

unfoldable pub byte_text : {T : Type 0} → (List ℤ → Bool) → (T → List ℤ → List ℕ) → Fed T → ℕ → List ℕ
byte_text fits answer s b = cond s.stopped [] (cond (eqb b 10) (end_text fits answer s.kept (read_end s.reading)) [])

-- many bytes
unfoldable pub fed_of : {T : Type 0} → (List ℤ → Bool) → (T → List ℤ → T) → Fed T → List ℕ → Fed T
fed_of fits after s [] = s
fed_of fits after s (b ∷ bs) = fed_of fits after (byte_fed fits after s b) bs

unfoldable pub text_fed : {T : Type 0} → (List ℤ → Bool) → (T → List ℤ → T) → (T → List ℤ → List ℕ) → Fed T → List ℕ → List ℕ
text_fed fits after answer s [] = []
text_fed fits after answer s (b ∷ bs) = byte_text fits answer s b ++ text_fed fits after answer (byte_fed fits after s b) bs

-- whether a byte ends a good line
abbrev pub ends_good : {T : Type 0} → (List ℤ → Bool) → Fed T → ℕ → Bool
ends_good fits s b = not s.stopped && (eqb b 10 && is_good fits (read_end s.reading))

-- x may be written of many bytes, where an answer is one of those that A says
unfoldable pub Said : {T : Type 0} → (List ℤ → Bool) → (T → List ℤ → T) → (T → List ℤ → List ℕ → Type 0) → Fed T → List ℕ → List ℕ → Type 0
Said fits after A s [] x = x ≡ []
Said fits after A s (b ∷ bs) x =
    (y : List ℕ) × (z : List ℕ) × (ends_good fits s b ≡ true → A s.kept (front (read_end s.reading)) y)
    × Said fits after A (byte_fed fits after s b) bs z × (x ≡ byte_text fits (λ t l. y) s b ++ z)

-- chunks one behind the other
unfoldable pub joined : {A : Type 0} → List (List A) → List A
joined [] = []
joined (x ∷ xs) = x ++ joined xs
