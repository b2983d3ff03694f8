-- The program, whatever chunks its input comes in, writes what `program_text` says of the input as a whole (`program`).
-- Assumes nothing.
use mathlib.Core.Path.{◌≡◌, refl, ◌∙◌, ap}
use mathlib.Core.List.{List, [], ◌∷◌, ◌++◌, append_assoc, append-nil}
use Prim.Native.Nat.{ℕ}
use native.Mathlib.Omega.{arith}
use borrow.Author.Tests.{eqb-true}
use lib.IntN.{pos}
use lib.ListN.{length}
use Rattle.drive_record.specs.declared.Drive.{Drive}
use Rattle.feeding.specs.Feeding.{Fed, fed_of, text_fed, joined}
use Rattle.feeding.proofs.Meaning.{Room}
use Rattle.feeding.proofs.Pieces.{fed_in_pieces, text_in_pieces, fed_stopped, text_stopped}
use Rattle.feeding.proofs.Whole.{comes}
use Rattle.stream.specs.declared.Tally.{Tally}
use Rattle.stream.specs.Program.{is_row, tally_start, tally_of, answer_text, header_text, program_text}
use Rattle.stream.specs.Streaming.{stream_start, rows_fed, rows_text, last_text, chunks_text}
use Rattle.stream.specs.Promised.{InWhateverChunks, UnreadChangesNothing}

-- a row has room among three numbers
pub three : Room is_row 3
unfolding is_row
three zs h = omega (arith, eqb-true (length zs) 3 h)

-- all that is written from s on, where bs is left of the input
abbrev onward : Fed Tally → List ℕ → List ℕ
onward s bs = rows_text s bs ++ last_text (rows_fed s bs)

chunks : (s : Fed Tally) (cs : List (List ℕ)) → chunks_text s cs ≡ onward s (joined cs)
unfolding chunks_text joined fed_of text_fed
chunks s [] = refl
chunks s (c ∷ cs) =
    rw (text_in_pieces is_row tally_of answer_text s c (joined cs), fed_in_pieces is_row tally_of s c (joined cs), append_assoc)
    (ap (λ (t : List ℕ). rows_text s c ++ t) (chunks (rows_fed s c) cs))

program_onward : (d : Drive) (input : List ℕ) → header_text ++ onward (stream_start d) input ≡ program_text d input
unfolding program_text
program_onward d input =
    let c = comes is_row tally_of answer_text (tally_start d) (pos 0 ∷ pos 0 ∷ pos 0 ∷ []) input three in
    rw (c.keeps, c.ends, c.writes) refl

pub program : InWhateverChunks
program d cs = ap (λ (t : List ℕ). header_text ++ t) (chunks (stream_start d) cs) ∙ program_onward d (joined cs)

pub unread : UnreadChangesNothing
unread d xs ys h =
    let s = stream_start d in
    let n = rows_fed s xs in
    let e = text_in_pieces is_row tally_of answer_text s xs ys in
    let f = fed_in_pieces is_row tally_of s xs ys in
    rw (
      ← program_onward d (xs ++ ys),
      ← program_onward d xs,
      e,
      f,
      fed_stopped is_row tally_of n ys h,
      text_stopped is_row tally_of answer_text n ys h,
      append-nil,
    ) refl
