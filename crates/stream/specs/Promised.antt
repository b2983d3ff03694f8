-- What is promised of the program: what it writes does not depend on how the input comes, and is what one run of all its rows gives.
-- proofs/ has a member of each.
use Rattle.std.specs.Prelude.{◌≡◌, true, false, List, [], ◌∷◌, ◌++◌, ℕ, ◌+◌, ◌<◌, length}
use Rattle.settings.specs.BenchSettings.{bench_settings}
use Rattle.drive_record.specs.declared.Drive.{Drive}
use Rattle.drive_record.specs.Record.{broken}
use Rattle.drive.specs.Calls.{fresh}
use Rattle.rows.specs.Rows.{ran_of}
use Rattle.feeding.specs.Lines.{good_lines, ends_bad, held_count, one_more}
use Rattle.feeding.specs.Feeding.{joined}
use Rattle.stream.specs.Program.{is_row, header_text, program_text, run_text}
use Rattle.stream.specs.Streaming.{stream_start, rows_fed, chunks_text}

-- header, the texts of the chunks fed one after the other, and the closing are the text of the chunks joined, whatever they are
abbrev pub InWhateverChunks : Type 0
InWhateverChunks = (d : Drive) (cs : List (List ℕ)) → header_text ++ chunks_text (stream_start d) cs ≡ program_text d (joined cs)

-- once it stopped, what is not read would change nothing
abbrev pub UnreadChangesNothing : Type 0
UnreadChangesNothing = (d : Drive) (xs ys : List ℕ) → (rows_fed (stream_start d) xs).stopped ≡ true → program_text d (xs ++ ys) ≡ program_text d xs

-- of a drive that is not broken, the rows' part is the output of one run of them all, and the totals are its counts
abbrev pub AsOneRun : Type 0
AsOneRun = (d : Drive) (input : List ℕ) → broken d ≡ false
    → program_text d input ≡ header_text ++ run_text d (joined (good_lines is_row input)) (ends_bad is_row input)

-- of an input of fewer than 2^64 − 1 bytes no count is held, the number of a bad line included
abbrev pub CountsExact : Type 0
CountsExact = (d : Drive) (input : List ℕ) → length input < 18446744073709551615 →
    let rows = good_lines is_row input in
    let ran = ran_of d (joined rows) (length rows) in
    (held_count (length rows) ≡ length rows) × (one_more (length rows) ≡ length rows + 1)
    × (held_count ran.accepted ≡ ran.accepted) × (held_count ran.clipped ≡ ran.clipped)

-- ════ the example of docs/RULES.md, "The program run_rows"
-- `0 0 0`, `9000 0 0`, `0 0 0`
abbrev pub input : List ℕ
input =
    48 ∷ 32 ∷ 48 ∷ 32 ∷ 48 ∷ 10
    ∷ 57 ∷ 48 ∷ 48 ∷ 48 ∷ 32 ∷ 48 ∷ 32 ∷ 48 ∷ 10
    ∷ 48 ∷ 32 ∷ 48 ∷ 32 ∷ 48 ∷ 10
    ∷ []

-- `a b c no`, `144 455 455 0`, `600 600 600 6`, `600 600 600 7`, `steps 1 clipped 0`
abbrev pub output : List ℕ
output =
    97 ∷ 32 ∷ 98 ∷ 32 ∷ 99 ∷ 32 ∷ 110 ∷ 111 ∷ 10
    ∷ 49 ∷ 52 ∷ 52 ∷ 32 ∷ 52 ∷ 53 ∷ 53 ∷ 32 ∷ 52 ∷ 53 ∷ 53 ∷ 32 ∷ 48 ∷ 10
    ∷ 54 ∷ 48 ∷ 48 ∷ 32 ∷ 54 ∷ 48 ∷ 48 ∷ 32 ∷ 54 ∷ 48 ∷ 48 ∷ 32 ∷ 54 ∷ 10
    ∷ 54 ∷ 48 ∷ 48 ∷ 32 ∷ 54 ∷ 48 ∷ 48 ∷ 32 ∷ 54 ∷ 48 ∷ 48 ∷ 32 ∷ 55 ∷ 10
    ∷ 115 ∷ 116 ∷ 101 ∷ 112 ∷ 115 ∷ 32 ∷ 49 ∷ 32 ∷ 99 ∷ 108 ∷ 105 ∷ 112 ∷ 112 ∷ 101 ∷ 100 ∷ 32 ∷ 48 ∷ 10
    ∷ []

-- in whatever chunks it comes
abbrev pub ExampleWrites : Type 0
ExampleWrites = (cs : List (List ℕ)) → joined cs ≡ input → header_text ++ chunks_text (stream_start (fresh bench_settings)) cs ≡ output
