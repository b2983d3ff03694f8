-- `findings::put_ends` meets its contract.
-- Assumes nothing.
use mathlib.Core.Path.{◌≡◌}
use borrow.Author.Rules.{rules}
use lib.IntN.{pos}
use Rattle.fixed.proofs.Reading.{m32}
use Rattle.settings.specs.Words.{entry_at}
use Rattle.writing.proofs.PageLaws.{then}
use Rattle.findings.specs.Phrases.{to}
use Rattle.findings.specs.Findings.{ends_text}
use Rattle.findings.proofs.put_ends.Goals as goal

pub returns-clause-put : goal.returns-clause-put
unfolding ends_text to
returns-clause-put c =
    let f = c.field_at-f.result in
    let r = (entry_at c.args.i).range in
    let lo : m32 f.lo ≡ pos r.lo = search rules in
    let hi : m32 f.hi ≡ pos r.hi = search rules in
    then (then (rw lo at c.put_word.ensures.put) c.put_text.ensures) (rw hi at c.put_word-2.ensures.put)
