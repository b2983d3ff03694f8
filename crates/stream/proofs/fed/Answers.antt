-- `stream::fed` meets its contract.
-- Assumes nothing.
use Rattle.stream.proofs.Feeding.{fed_rows}
use Rattle.stream.proofs.fed.Goals as goal

pub returns-clause-put : goal.returns-clause-put
returns-clause-put c =
    let put = c.lines_fed.ensures.put in
    rw (fed_rows c.args.s c.lines_fed.result c.args.chunk.now put.0 (c.lines_fed.ensures.value, put.1)).1 at put.2
