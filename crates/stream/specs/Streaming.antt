-- The program as a stream that is fed: its words as those of `Feeding`, chunks one after the other, and then the end.
use Rattle.std.specs.Prelude.{ℕ, List, [], ◌∷◌, ◌++◌, pos}
use Rattle.drive_record.specs.declared.Drive.{Drive}
use Rattle.feeding.specs.Feeding.{Fed, line_due, fed_of, text_fed}
use Rattle.stream.specs.declared.Tally.{Tally}
use Rattle.stream.specs.Program.{is_row, tally_start, tally_of, answer_text, closing_text}

-- nothing is read yet
abbrev pub stream_start : Drive → Fed Tally
stream_start d = line_due (tally_start d) (pos 0 ∷ pos 0 ∷ pos 0 ∷ [])

-- what a chunk makes of it, and what is written of the chunk
abbrev pub rows_fed : Fed Tally → List ℕ → Fed Tally
rows_fed = fed_of is_row tally_of

abbrev pub rows_text : Fed Tally → List ℕ → List ℕ
rows_text = text_fed is_row tally_of answer_text

-- what is written last
abbrev pub last_text : Fed Tally → List ℕ
last_text s = closing_text s.begun s.kept

unfoldable pub chunks_text : Fed Tally → List (List ℕ) → List ℕ
chunks_text s [] = last_text s
chunks_text s (c ∷ cs) = rows_text s c ++ chunks_text (rows_fed s c) cs
