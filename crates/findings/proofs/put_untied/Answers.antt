-- `findings::put_untied` meets its contract.
-- Assumes nothing.
use mathlib.Core.Path.{◌≡◌}
use Prim.Native.Nat.{◌+◌}
use borrow.Author.Rules.{rules}
use lib.IntN.{pos}
use lib.ListN.{get_or}
use Rattle.fixed.proofs.Reading.{m32}
use Rattle.writing.proofs.PageLaws.{then}
use Rattle.findings.specs.Phrases.{must_be}
use Rattle.findings.specs.Findings.{times_text, untied_text}
use Rattle.findings.proofs.put_untied.Goals as goal

pub returns-clause-put : goal.returns-clause-put
unfolding untied_text times_text must_be
returns-clause-put c =
    let z = get_or c.args.words.now (c.args.k + 2) (pos 0) in
    let e : m32 z ≡ z = search rules in
    then (then (rw e at c.put_is.ensures.put) c.put_text.ensures) c.put_product.ensures.put
