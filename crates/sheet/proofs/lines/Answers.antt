-- `sheet::lines` meets its contract.
-- Assumes nothing.
use Rattle.std.proofs.Common.{◌∙◌, ap, sym, arith, Ok}
use borrow.Author.Tests.{eqb-true}
use Rattle.sheet.proofs.Walking.{walking_more, walking_end}
use Rattle.sheet.proofs.lines.Goals as goal

pub loop-i-preserved : goal.loop-i-preserved
loop-i-preserved c =
    let f = rw c.in_ok-w.ensures.ok_part at c.first.ensures in
    walking_more c.loop-i.invariant c.loop-i-test.true f.0 f.1 f.2

pub returns : goal.returns
returns c = ap Ok c.of_words.ensures ∙ sym (walking_end c.loop-i.invariant (omega arith) (eqb-true _ _ (sym c.is_empty.ensures ∙ c.if-not-is_empty.false)))
