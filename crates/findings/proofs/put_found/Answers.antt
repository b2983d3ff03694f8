-- `findings::put_found` meets its contract.
-- Assumes nothing.
use mathlib.Core.Path.{ap, sym, ◌∙◌}
use Prim.Native.Nat.{ℕ}
use native.Mathlib.Omega.{arith}
use borrow.Author.Tests.{lt-ltb, le-ltb, eqb-true, eqb-false}
use lib.ListN.{length, take}
use lib.Seq.{length-take-le}
use Rattle.writing.proofs.PageLaws.{then}
use Rattle.values.proofs.CodeLaws.{before_take}
use Rattle.findings.specs.Phrases.{nothing}
use Rattle.findings.specs.Findings.{found_text}
use Rattle.findings.proofs.Laws.{before_most}
use Rattle.findings.proofs.put_found.Goals as goal

pub slice_bounds-put_quoted-end : goal.slice_bounds-put_quoted-end
slice_bounds-put_quoted-end c =
    let rest = c.args.rest.now in
    sym (length-take-le c.find-n.result rest (omega (arith, c.find-n.ensures, before_most 10 rest)))

pub returns-then-is_empty-clause-put : goal.returns-then-is_empty-clause-put
unfolding found_text nothing
returns-then-is_empty-clause-put c =
    let z = eqb-true (length c.args.rest.now) 0 (sym c.is_empty.ensures ∙ c.if-is_empty.true) in
    rw (le-ltb 0 (length c.args.rest.now) (omega arith)) c.put_text.ensures

pub returns-else-is_empty-clause-put : goal.returns-else-is_empty-clause-put
unfolding found_text
returns-else-is_empty-clause-put c =
    let rest = c.args.rest.now in
    let e = ap (λ (n : ℕ). take n rest) c.find-n.ensures ∙ before_take 10 rest in
    let z = eqb-false (length rest) 0 (sym c.is_empty.ensures ∙ c.if-is_empty.false) in
    rw (lt-ltb 0 (length rest) (omega arith)) (then (rw e at c.put_quoted.ensures.put) c.put_end.ensures.put)
