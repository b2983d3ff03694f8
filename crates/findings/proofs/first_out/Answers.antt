-- `findings::first_out` meets its contract.
-- Assumes nothing.
use mathlib.Core.Path.{◌≡◌}
use mathlib.Core.Bool.{true, false}
use borrow.Author.Rules.{rules}
use native.Mathlib.Omega.{arith}
use borrow.Author.Tests.{tests}
use Rattle.std.proofs.lemmas.Iterator.{first_from_Range}
use Rattle.findings.proofs.Laws.{is_good, first_found}
use Rattle.findings.proofs.first_out.Goals as goal

pub returns : goal.returns
returns c =
    let zs = c.args.words.now in
    first_found zs c.find.result (omega arith)
    (first_from_Range _ _ _ c.find.result (λ k. is_good zs k ≡ false) (λ k. is_good zs k ≡ true) c.find.ensures.ran (λ k q r. search (rules, tests))
    (λ k q r. search (rules, tests)))
