-- What a stream is fed, told row by row, is what `Streaming` says.
-- Assumes nothing.
use mathlib.Core.Path.{◌≡◌, ap}
use Prim.Native.Nat.{ℕ, ◌≤◌}
use mathlib.Core.List.{List}
use lib.Dec.{eqb}
use lib.IntN.{ℤ}
use lib.ListN.{length, take}
use lib.Seq.{length-take-le}
use Rattle.feeding.specs.Feeds.{Feeds}
use Rattle.feeding.proofs.Pieces.{said_is}
use Rattle.stream.specs.Program.{is_row, tally_of, answer_text}
use Rattle.stream.specs.Feeds.{Stream, FedRows}
use Rattle.feeding.specs.Feeds.{as_fed}

-- of numbers for which there is room, so many count as there are
pub row_test : (ns : List ℤ) (n : ℕ) → n ≤ length ns → is_row (take n ns) ≡ eqb n 3
unfolding is_row
row_test ns n h = ap (λ (k : ℕ). eqb k 3) (length-take-le n ns h)

pub fed_rows : (s t : Stream) (bs text : List ℕ) → Feeds is_row tally_of (λ k row x. x ≡ answer_text k row) s bs t text → FedRows s bs t text
fed_rows s t bs text f = (f.0, said_is is_row tally_of answer_text (as_fed s) bs text f.1)
