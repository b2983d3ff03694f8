-- `text::word_number` meets its contract: what `try_from` takes is what is within 32 bits, and that is held as it is.
-- Assumes nothing.
use Rattle.std.proofs.Common.{rules, ◌≡◌, ◌≤ℤ◌, if◌then◌else◌, Some, None, Result, Ok, Err, arith, w32, w64, ℤ, FitsSigned}
use mathlib.Core.Path.{◌∙◌}
use Rattle.std.specs.Result.{OkIff, result_ok}
use Rattle.fixed.specs.Fixed.{held, within}
use Rattle.fixed.proofs.Parts.{order}
use Rattle.fixed.proofs.Choice.{by_test}
use Rattle.fixed.proofs.Size.{fits_between, fits_hi, fits_lo}
use Rattle.fixed.proofs.HeldLaws.{held_inside, within_lo, within_hi, within_yes}
use Rattle.fixed.proofs.Reading.{answer}
use Rattle.text.specs.Grammar.{least, greatest}
use Rattle.text.specs.Automaton.{word_ok, word_value}
use Rattle.text.proofs.word_number.Goals as goal

least_fits : FitsSigned w32 least
least_fits = search rules

greatest_fits : FitsSigned w32 greatest
greatest_fits = search rules

taken : {E : Type 0} (z : ℤ) (r : Result ℤ E) → OkIff r (FitsSigned w32 z) z
    → result_ok r ≡ (if within least greatest z then Some (held z least greatest) else None)
taken z (Ok x) h =
    let lo : least ≤ℤ z = omega (arith, order, fits_lo w32 z h.0) in
    let hi : z ≤ℤ greatest = omega (arith, order, fits_hi w32 z h.0) in
    rw (within_yes least greatest z lo hi, held_inside z least greatest lo hi, h.1)
taken z (Err e) n = by_test (within least greatest z)
    (λ t. absurd (n (fits_between w32 least z greatest least_fits greatest_fits (within_lo least greatest z t) (within_hi least greatest z t))))
    (λ t. rw t)

pub returns-then-not-w : goal.returns-then-not-w
unfolding word_ok word_value
returns-then-not-w c =
    let e = (answer w64 c.word_signed.type_inv).is ∙ c.word_signed.ensures in
    c.ok.ensures.value ∙ taken _ _ c.try_from.ensures ∙ rw (e, c.if-w.true, c.if-not-w.true)
