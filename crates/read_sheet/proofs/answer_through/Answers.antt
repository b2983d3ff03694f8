-- `read_sheet::answer_through` sends what is to be said of the input.
-- Assumes nothing.
use Rattle.std.proofs.Common.{rules}
use Rattle.std.proofs.lemmas.Result.{on_ok_weaker}
use Rattle.pipes.proofs.Fronts.{page_sent}
use Rattle.read_sheet.proofs.Gathers.{answered}
use Rattle.read_sheet.proofs.answer_through.Goals as goal

pub returns : goal.returns
returns g c =
    let put = c.put_answer.ensures.put in
    on_ok_weaker c.send.result
    (λ sent. answered _ _ _ _ _ _ c.in_ok-size.ensures.gathered (page_sent _ _ _ _ _ _ _ put c.new-page.ensures.place c.place-place.ensures (search (rules, put.same)) sent))
    c.send.ensures.all
