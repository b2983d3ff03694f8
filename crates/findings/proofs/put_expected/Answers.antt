-- `findings::put_expected` meets its contract.
-- Assumes nothing.
use borrow.Author.Tests.{lt-ltb, le-ltb}
use Rattle.settings.specs.Words.{size}
use Rattle.writing.proofs.PageLaws.{then}
use Rattle.findings.specs.Phrases.{the_end}
use Rattle.findings.specs.Findings.{expected_text}
use Rattle.findings.proofs.put_expected.Goals as goal

pub returns-then-i-lt-WORDS-clause-put : goal.returns-then-i-lt-WORDS-clause-put
unfolding expected_text
returns-then-i-lt-WORDS-clause-put c =
    let f = c.field_at-f.ensures in
    rw (lt-ltb c.args.i size c.if-i-lt-WORDS.true, ← f.key, ← f.gain) (then c.put_text.ensures c.put_kind.ensures.put)

pub returns-else-i-lt-WORDS-clause-put : goal.returns-else-i-lt-WORDS-clause-put
unfolding expected_text the_end
returns-else-i-lt-WORDS-clause-put c = rw (le-ltb c.args.i size c.if-i-lt-WORDS.false) c.put_text-else-i-lt-WORDS.ensures
