-- A whole input is counted as the grammar says.
-- Assumes nothing.
use Rattle.std.proofs.Common.{◌≡◌, ℕ, ◌<◌, List, ◌++◌, length, sym, ap, ◌∙◌, arith, append-nil, length-append}
use Rattle.std.specs.Prelude.{Option, None, Some, false, IfSome, ℤ, pos, replicate}
use Rattle.std.specs.Io.KnownBytes.{Consumes, IsAtEnd}
use Rattle.fixed.proofs.Choice.{by_test}
use Rattle.feeding.specs.Lines.{good_lines, ends_bad, after_all}
use Rattle.feeding.specs.declared.Feeder.{Feeder}
use Rattle.feeding.specs.Feeding.{Fed, line_due, fed_of}
use Rattle.feeding.specs.Feeds.{as_fed, Feeds}
use Rattle.feeding.proofs.Pieces.{fed_in_pieces, fed_stopped}
use Rattle.pipes.specs.Through.{Through}
use Rattle.probe.specs.declared.Calls.{Calls}
use Rattle.probe.specs.Calls.{most, is_call, calls_start, calls_after}
use Rattle.probe.proofs.CallLaws.{calls}

-- what was left unread would change nothing
all_read : (s : Fed Calls) (input eaten : List ℕ) (g : Option (List ℕ)) → Consumes (Some input) g eaten → length input < 18446744073709551615
    → ((fed_of is_call calls_after s eaten).stopped ≡ false → length eaten < 18446744073709551615 → IsAtEnd g)
    → fed_of is_call calls_after s input ≡ fed_of is_call calls_after s eaten
all_read s input eaten None c l ends = absurd c
all_read s input eaten (Some ys) c l ends =
    by_test (fed_of is_call calls_after s eaten).stopped
    (λ h. ap (fed_of is_call calls_after s) c ∙ fed_in_pieces is_call calls_after s eaten ys
    ∙ fed_stopped is_call calls_after (fed_of is_call calls_after s eaten) ys h)
    (λ h. let few : length eaten < 18446744073709551615 = omega (arith, l, ap length c, length-append eaten ys) in
    ap (fed_of is_call calls_after s) (c ∙ ap (λ (bs : List ℕ). eaten ++ bs) (ends h few) ∙ append-nil eaten))

-- by the grammar, whatever the calls are answered: how many there are before a bad line, and whether one ends them
pub counted : (A : Calls → List ℤ → List ℕ → Type 0) (first last : Feeder Calls most) (room : ℕ) (f g v w : Option (List ℕ))
    → as_fed first ≡ line_due calls_start (replicate most (pos 0))
    → Through (Feeds is_call calls_after A) (λ s. s.stopped) room first last f g v w
    → IfSome f (λ input. length input < 18446744073709551615
    → (last.kept ≡ after_all calls_after calls_start (good_lines is_call input)) × (last.begun ≡ ends_bad is_call input))
counted A first last room None g v w starts t = tt
counted A first last room (Some input) g v w starts t = λ small.
    let due : Fed Calls = line_due calls_start (replicate most (pos 0)) in
    let fed : as_fed last ≡ fed_of is_call calls_after due t.eaten = t.fed.0 ∙ ap (λ (x : Fed Calls). fed_of is_call calls_after x t.eaten) starts in
    let e = fed ∙ sym (all_read due input t.eaten g t.read small (λ h. t.ends (ap (λ (x : Fed Calls). x.stopped) fed ∙ h))) in
    (ap (λ (x : Fed Calls). x.kept) e ∙ (calls input).0, ap (λ (x : Fed Calls). x.begun) e ∙ (calls input).1)
