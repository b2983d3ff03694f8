-- The example of docs/RULES.md, "The program run_rows": of its three lines the definition says, byte for byte, what stands there.
-- Assumes nothing.
use mathlib.Core.Path.{◌≡◌, refl, ◌∙◌, ap}
use mathlib.Core.Bool.{false}
use mathlib.Core.List.{[], ◌∷◌}
use lib.IntN.{pos}
use Rattle.settings.specs.BenchSettings.{bench_settings}
use Rattle.drive.specs.Calls.{fresh, refused}
use Rattle.drive.proofs.AtBench.{first, second, third}
use Rattle.rows.specs.Rows.{row_stepped, four, is_accepted, is_clipped}
use Rattle.text.specs.Grammar.{all_digits, value_of, digits_of, fitting, number_of, words_in, both, numbers_of, line_of}
use Rattle.writing.specs.Decimal.{decimal, count_text, text_of, more_text, numbers_text, line_text}
use Rattle.feeding.specs.Lines.{lines_of, rest_of, any, if_fits, good_in, good_then, good_of, bad_or, bad_of, good_lines, ends_bad, after_all, answers_to}
use Rattle.stream.specs.Program.{is_row, tally_of, answer_text, header_text, totals_text, closing_text, program_text}
use Rattle.stream.specs.Promised.{input, output, ExampleWrites}
use Rattle.stream.proofs.Whole.{program}

-- what its lines mean
rows_read :
    (good_lines is_row input ≡ (pos 0 ∷ pos 0 ∷ pos 0 ∷ []) ∷ (pos 9000 ∷ pos 0 ∷ pos 0 ∷ []) ∷ (pos 0 ∷ pos 0 ∷ pos 0 ∷ []) ∷ [])
    × (ends_bad is_row input ≡ false)
unfolding lines_of rest_of good_of good_then bad_of bad_or any good_in if_fits is_row line_of numbers_of number_of both words_in fitting digits_of all_digits value_of
rows_read = (refl, refl)

-- row by row: the first is taken, the second trips the drive, and the third finds it tripped
pub example : program_text (fresh bench_settings) input ≡ output
unfolding program_text header_text answers_to after_all tally_of answer_text row_stepped is_accepted is_clipped four refused line_text numbers_text more_text text_of
    count_text decimal closing_text totals_text
example = rw (rows_read.0, rows_read.1, first, second, third) refl

pub example_in_pieces : ExampleWrites
example_in_pieces cs e = program (fresh bench_settings) cs ∙ ap (program_text (fresh bench_settings)) e ∙ example
