-- `values::find` meets its contract.
-- Assumes nothing.
use Rattle.std.proofs.Common.{◌≡◌, ◌≢◌, sym, ◌∙◌, length, rules}
use borrow.Author.Tests.{tests}
use Rattle.std.proofs.lemmas.Iterator.{YieldsList-from_slice, IsFirst-from_position, index_from_first}
use Rattle.values.specs.Value.{before}
use Rattle.values.proofs.CodeLaws.{before_none, before_hit, before_miss}
use Rattle.values.proofs.find.Goals as goal

pub returns : goal.returns
returns c =
    let b = c.args.b in
    c.unwrap_or.ensures
    ∙ sym
    (index_from_first (λ s. length (before b s)) (λ x. x ≡ b) (λ x. x ≢ b) (before_none b) (before_hit b) (before_miss b) c.args.s.now c.position.result
    (IsFirst-from_position _ _ c.position.result (λ x. x ≡ b) (λ x. x ≢ b) c.position.ensures.ran (YieldsList-from_slice c.args.s.now cc)
    (λ x q k. search (rules, tests)) (λ x q k. search (rules, tests))))
