-- What the program writes for an input, from the first byte to the last (docs/RULES.md, "The program run_rows").
use Rattle.std.specs.Prelude.{ℕ, ◌*◌, Bool, cond, List, [], ◌∷◌, ◌++◌, eqb, ℤ, pos, length, replicate}
use Rattle.drive_record.specs.declared.Drive.{Drive}
use Rattle.stages.specs.declared.Stepped.{Stepped}
use Rattle.rows.specs.declared.Ran.{Ran}
use Rattle.rows.specs.Rows.{row_stepped, four, is_accepted, is_clipped, rows_in, run_of, output_after}
use Rattle.writing.specs.Decimal.{count_text, line_text, bad_text}
use Rattle.feeding.specs.Lines.{good_lines, ends_bad, after_all, answers_to, held_count, one_more}
use Rattle.stream.specs.declared.Tally.{Tally}

-- ════ the rows
-- a row has exactly three numbers
unfoldable pub is_row : List ℤ → Bool
is_row numbers = eqb (length numbers) 3

-- nothing is read yet
abbrev pub tally_start : Drive → Tally
tally_start d = record { drive = d; rows = 0; accepted = 0; clipped = 0 }

-- a row is one step of the run
abbrev pub step_of : Tally → List ℤ → Stepped
step_of t row = row_stepped t.drive row 0

-- one row more
unfoldable pub tally_of : Tally → List ℤ → Tally
tally_of t row = record {
  drive = (step_of t row).drive;
  rows = one_more t.rows;
  accepted = cond (is_accepted (step_of t row)) (one_more t.accepted) t.accepted;
  clipped = cond (is_clipped (step_of t row)) (one_more t.clipped) t.clipped;
}

-- its answer: three compares and the number, as a line
unfoldable pub answer_text : Tally → List ℤ → List ℕ
answer_text t row = line_text (four (step_of t row))

-- ════ what is written besides
-- `a b c no`, the header
unfoldable pub header_text : List ℕ
header_text = 97 ∷ 32 ∷ 98 ∷ 32 ∷ 99 ∷ 32 ∷ 110 ∷ 111 ∷ 10 ∷ []

-- `steps`, the accepted steps, `clipped`, and the clipped ones among them
unfoldable pub totals_text : ℕ → ℕ → List ℕ
totals_text accepted clipped =
    (((115 ∷ 116 ∷ 101 ∷ 112 ∷ 115 ∷ 32 ∷ count_text accepted)
    ++ (32 ∷ 99 ∷ 108 ∷ 105 ∷ 112 ∷ 112 ∷ 101 ∷ 100 ∷ 32 ∷ [])) ++ count_text clipped) ++ (10 ∷ [])

-- where it ends: if that is at a bad line, its number, which is one more than the rows before it; then the totals so far
unfoldable pub closing_text : Bool → Tally → List ℕ
closing_text bad t = cond bad (bad_text (one_more t.rows)) [] ++ totals_text t.accepted t.clipped

-- ════ the program
-- all that is written, from the drive d: the header; the answer of each row, as long as the lines are rows; the closing
unfoldable pub program_text : Drive → List ℕ → List ℕ
program_text d input =
    header_text
    ++ (answers_to tally_of answer_text (tally_start d) (good_lines is_row input)
    ++ closing_text (ends_bad is_row input) (after_all tally_of (tally_start d) (good_lines is_row input)))

-- ════ the same by one run of all the rows
-- numbers in fours, a line each
unfoldable pub fours_text : List ℤ → List ℕ
fours_text [] = []
fours_text (a ∷ []) = []
fours_text (a ∷ b ∷ []) = []
fours_text (a ∷ b ∷ c ∷ []) = []
fours_text (a ∷ b ∷ c ∷ n ∷ more) = line_text (a ∷ b ∷ c ∷ n ∷ []) ++ fours_text more

-- what a run of n rows leaves
abbrev pub ran_tally : Ran → ℕ → Tally
ran_tally r n = record { drive = r.drive; rows = held_count n; accepted = held_count r.accepted; clipped = held_count r.clipped }

-- its output, over zeros of which there are as many as it writes, and where it ends
abbrev pub run_text : Drive → List ℤ → Bool → List ℕ
run_text d samples bad =
    let out = replicate (4 * rows_in samples) (pos 0) in
    fours_text (output_after d samples out) ++ closing_text bad (ran_tally (run_of d samples out) (rows_in samples))
