-- What a stream becomes, fed with bytes, and what it answers them.
use Rattle.std.specs.Prelude.{◌≡◌, ℕ, List, ◌++◌, refl}
use Rattle.std.proofs.Common.{sym, ap, ap₂, ◌∙◌}
use Rattle.feeding.specs.declared.Feeder.{Feeder}
use Rattle.feeding.specs.Feeding.{Fed, fed_of, text_fed}
use Rattle.feeding.specs.Feeds.{as_fed, FeedLaws, fed_in_pieces}
use Rattle.feeding.proofs.Pieces.{text_in_pieces}
use Rattle.stream.specs.declared.Tally.{Tally}
use Rattle.stream.specs.declared.Rows.{Rows}
use Rattle.stream.specs.Program.{is_row, tally_of, answer_text}
use Rattle.stream.specs.Streaming.{rows_fed, rows_text}

-- the rows so far, and the line at hand
abbrev pub Stream : Type 0
Stream = Feeder Tally 3

abbrev pub FedRows : Stream → List ℕ → Stream → List ℕ → Type 0
FedRows s bs t text = (as_fed t ≡ rows_fed (as_fed s) bs) × (text ≡ rows_text (as_fed s) bs)

-- the same of the stream as a program feeds it
abbrev pub RowsFed : Rows → List ℕ → Rows → List ℕ → Type 0
RowsFed r bs s text = FedRows r.stream bs s.stream text

-- it goes by the bytes alone: none change nothing, and two pieces are the two joined
pub rows_laws : FeedLaws RowsFed
unfolding fed_of text_fed
rows_laws = record {
  none = λ s. (refl, refl);
  more = λ s t u bs cs xs ys p q. (
    q.0 ∙ ap (λ (x : Fed Tally). rows_fed x cs) p.0 ∙ sym (fed_in_pieces is_row tally_of (as_fed s.stream) bs cs),
    ap₂ (λ (x y : List ℕ). x ++ y) p.1 (q.1 ∙ ap (λ (x : Fed Tally). rows_text x cs) p.0)
        ∙ sym (text_in_pieces is_row tally_of answer_text (as_fed s.stream) bs cs),
  );
}
