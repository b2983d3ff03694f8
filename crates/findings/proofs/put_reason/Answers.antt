-- `findings::put_reason` meets its contract.
-- Assumes nothing.
use mathlib.Core.Path.{◌≡◌, sym, ◌∙◌}
use borrow.Author.Rules.{rules}
use borrow.Author.Tests.{lt-ltb, le-ltb}
use native.Mathlib.Omega.{arith}
use lib.IntN.{pos}
use lib.ListN.{get_or}
use Rattle.fixed.proofs.Reading.{m32}
use Rattle.settings.specs.Words.{entries, size}
use Rattle.writing.proofs.PageLaws.{none}
use Rattle.findings.specs.Findings.{first_out, out_text, reason_text}
use Rattle.findings.proofs.Laws.{third}
use Rattle.findings.proofs.put_reason.Goals as goal

pub returns-then-eq-clause-put : goal.returns-then-eq-clause-put
unfolding reason_text
returns-then-eq-clause-put c =
    let t = sym (third c.args.why) ∙ sym c.eq.ensures ∙ c.if-eq.true in
    rw (t, ← c.words_of-words.ensures, ← c.untied_at.ensures.0) c.put_untied.ensures.put

pub returns-in-Some-clause-put : goal.returns-in-Some-clause-put
unfolding reason_text out_text
returns-in-Some-clause-put c =
    let t = sym (third c.args.why) ∙ sym c.eq.ensures ∙ c.if-eq.false in
    let i = c.in-Some.i in
    let e = c.in-Some.ensures in
    let w : m32 (get_or c.words_of-words.result i (pos 0)) ≡ get_or c.words_of-words.result i (pos 0) = search rules in
    rw (t, ← c.words_of-words.ensures, ← e.0, lt-ltb i size e.1) (rw w at c.put_range.ensures.put)

pub returns-in_default-clause-put : goal.returns-in_default-clause-put
unfolding reason_text out_text
returns-in_default-clause-put c =
    let t = sym (third c.args.why) ∙ sym c.eq.ensures ∙ c.if-eq.false in
    let w = c.words_of-words.result in
    rw (t, ← c.words_of-words.ensures, le-ltb (first_out entries w) size c.in_default.ensures) (none c.args.page.now (omega arith))
