-- What is written of a whole input is what `program_text` says.
-- Assumes nothing.
use Rattle.std.proofs.Common.{◌≡◌, ℕ, ◌<◌, List, [], ◌∷◌, ◌++◌, length, sym, ap, subst, ◌∙◌, arith, append-nil, length-append}
use Rattle.std.specs.Prelude.{Option, None, Some, false, IfSome}
use Rattle.std.specs.Io.KnownBytes.{Appends, Consumes, IsAtEnd}
use Rattle.std.proofs.KnownBytes.{Appends-trans}
use Rattle.fixed.proofs.Choice.{by_test}
use Rattle.drive_record.specs.declared.Drive.{Drive}
use Rattle.feeding.specs.Feeding.{Fed, joined}
use Rattle.feeding.specs.Feeds.{as_fed}
use Rattle.pipes.specs.Through.{Through}
use Rattle.stream.specs.declared.Rows.{Rows}
use Rattle.stream.specs.declared.Tally.{Tally}
use Rattle.stream.specs.Feeds.{RowsFed}
use Rattle.stream.specs.Program.{header_text, program_text}
use Rattle.stream.specs.Streaming.{stream_start, rows_fed, rows_text, last_text, chunks_text}
use Rattle.stream.proofs.Whole.{program, unread}

-- what was read, as one chunk
one_chunk : (d : Drive) (input : List ℕ)
    → header_text ++ (rows_text (stream_start d) input ++ last_text (rows_fed (stream_start d) input)) ≡ program_text d input
unfolding chunks_text joined
one_chunk d input = program d (input ∷ []) ∙ ap (program_text d) (append-nil input)

-- what was left unread would change nothing
all_read : (d : Drive) (input eaten : List ℕ) (g : Option (List ℕ)) → Consumes (Some input) g eaten → length input < 18446744073709551615
    → ((rows_fed (stream_start d) eaten).stopped ≡ false → length eaten < 18446744073709551615 → IsAtEnd g)
    → program_text d input ≡ program_text d eaten
all_read d input eaten None c l ends = absurd c
all_read d input eaten (Some ys) c l ends =
    by_test (rows_fed (stream_start d) eaten).stopped
    (λ h. ap (program_text d) c ∙ unread d eaten ys h)
    (λ h. let few : length eaten < 18446744073709551615 = omega (arith, l, ap length c, length-append eaten ys) in
    ap (program_text d) (c ∙ ap (λ (l : List ℕ). eaten ++ l) (ends h few) ∙ append-nil eaten))

-- the header, the turns and the closing: what was written of an input
pub finished : (d : Drive) (first last : Rows) (room : ℕ) (f g v w x y : Option (List ℕ)) → as_fed first.stream ≡ stream_start d → Appends v w header_text
    → Through RowsFed (λ r. r.stream.stopped) room first last f g w x → Appends x y (last_text (as_fed last.stream))
    → IfSome f (λ input. length input < 18446744073709551615 → Appends v y (program_text d input))
finished d first last room None g v w x y starts header t close = tt
finished d first last room (Some input) g v w x y starts header t close = λ small.
    let fed : as_fed last.stream ≡ rows_fed (stream_start d) t.eaten = t.fed.0 ∙ ap (λ (s : Fed Tally). rows_fed s t.eaten) starts in
    let text : t.text ≡ rows_text (stream_start d) t.eaten = t.fed.1 ∙ ap (λ (s : Fed Tally). rows_text s t.eaten) starts in
    let stop = ap (λ (s : Fed Tally). s.stopped) fed in
    let sent = subst (Appends w x) text t.sent in
    let closing = subst (λ (s : Fed Tally). Appends x y (last_text s)) fed close in
    subst (Appends v y) (one_chunk d t.eaten ∙ sym (all_read d input t.eaten g t.read small (λ h. t.ends (stop ∙ h))))
    (Appends-trans v w y _ _ header (Appends-trans w x y _ _ sent closing))
