-- `Calls::told` meets its contract: of the numbers that it is given it asks for those of the line.
-- Assumes nothing.
use Rattle.std.proofs.Common.{[], refl, sym, ap, ◌∙◌, arith}
use Rattle.writing.specs.Decimal.{line_text}
use Rattle.writing.proofs.PageLaws.{none}
use Rattle.probe.specs.declared.Call.{Call}
use Rattle.probe.specs.Calls.{calls_after, answer_words, call_text}
use Rattle.probe.proofs.CallLaws.{front_call}
use Rattle.probe.proofs.CallWords.{front_of}
use Rattle.probe.proofs.CallsToldALL.told.Goals as goal

pub returns-in_err-call-clause-good : goal.returns-in_err-call-clause-good
returns-in_err-call-clause-good c = rw (front_call c.args.numbers.now c.args.count c.requires.1, c.from_residual.ensures) c.in_err-call.ensures.good

pub returns-in_err-call-clause-put : goal.returns-in_err-call-clause-put
returns-in_err-call-clause-put c = rw c.from_residual.ensures ([], tt, refl, none c.args.page.now (omega (arith, c.requires.2)))

pub returns-clause-good : goal.returns-clause-good
returns-clause-good c = rw (front_call c.args.numbers.now c.args.count c.requires.1) c.in_ok-call.ensures.good

pub returns-clause-next : goal.returns-clause-next
unfolding calls_after
returns-clause-next c = (rw c.next.ensures refl, tt)

-- the call that was answered is that of the line
pub returns-clause-put : goal.returns-clause-put
unfolding call_text
returns-clause-put c =
    let is = c.in_ok-call.ensures.value ∙ sym (front_of c.args.numbers.now c.args.count (sym c.in_ok-call.ensures.good)) in
    (line_text (answer_words c.in_ok-call.call), ap (λ (x : Call). line_text (answer_words x)) is, tt, c.put_answer.ensures.put)
