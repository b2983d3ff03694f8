-- The rule of the first faulty line, apart from the reader: it is the first that is not exactly name=value and a line feed, for a value that such a line
-- can have.
use Rattle.std.specs.Prelude.{◌≡◌, ℕ, ◌+◌, ◌<◌, List, [], ◌∷◌, ◌++◌}
use Rattle.settings.specs.Words.{Entry}
use Rattle.values.specs.Value.{top}
use Rattle.sheet.specs.Sheet.{line_text}

-- of a text whose first line has the number i and should be the first of these lines, line j is the first faulty one
pub data FirstFault : ℕ → List Entry → List ℕ → ℕ → Type 0 where
  -- nothing should stand here
  over : (i b : ℕ) (bs : List ℕ) → FirstFault i [] (b ∷ bs) i
  -- the text does not begin with the line, whatever its value
  here : (i : ℕ) (e : Entry) (es : List Entry) (bs : List ℕ) → ((w : ℕ) (more : List ℕ) → w < top e.gain → bs ≡ line_text e w ++ more → ⊥)
      → FirstFault i (e ∷ es) bs i
  -- it does, and the fault comes later
  later : (i j w : ℕ) (e : Entry) (es : List Entry) (more : List ℕ) → w < top e.gain → FirstFault (i + 1) es more j
      → FirstFault i (e ∷ es) (line_text e w ++ more) j
