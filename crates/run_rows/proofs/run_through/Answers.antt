-- `run_rows::run_through` writes what is to be written of the whole input.
-- Assumes nothing.
use Rattle.std.proofs.Common.{rules, arith}
use Rattle.pipes.proofs.Fronts.{page_sent}
use Rattle.run_rows.proofs.Whole.{finished}
use Rattle.run_rows.proofs.run_through.Goals as goal

pub returns : goal.returns
returns g c =
    let h = c.put_header.ensures.put in
    let k = c.ended.ensures.put in
    finished c.args.d _ _ _ _ _ _ _ _ _ c.start.ensures
    (page_sent _ _ _ _ _ _ _ h c.new-header.ensures.place c.place-place.ensures (search (rules, h.same)) c.in_ok-send.ensures.all) c.in_ok-s.ensures.through
    (page_sent _ _ _ _ _ _ _ k c.new-closing.ensures.place (search (rules, arith, c.place-end.ensures)) (search (rules, k.same)) c.in_ok-send-2.ensures.all)
