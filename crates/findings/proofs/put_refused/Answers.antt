-- `findings::put_refused` meets its contract.
-- Assumes nothing.
use mathlib.Core.Path.{◌≡◌}
use borrow.Author.Rules.{rules}
use lib.IntN.{nat_abs}
use Rattle.fixed.specs.Refusal.{number_of}
use Rattle.writing.proofs.PageLaws.{then}
use Rattle.findings.specs.Phrases.{colon}
use Rattle.findings.specs.Findings.{refused_text}
use Rattle.findings.proofs.put_refused.Goals as goal

pub returns-clause-put : goal.returns-clause-put
unfolding refused_text colon
returns-clause-put c =
    let n : c.from.result ≡ nat_abs (number_of c.args.why) = search rules in
    then (then (then (rw n at c.put_count.ensures.put) c.put_text.ensures) c.put_reason.ensures.put) c.put_byte.ensures
