-- `feeding::lines_fed` meets its contract. The measure is how many bytes are left.
-- Assumes nothing.
use Rattle.std.proofs.Common.{length}
use Rattle.feeding.proofs.Telling.{Telling}
use Rattle.feeding.proofs.lines_fed.Given as goal

abbrev pub invariant-loop-rest : goal.invariant-loop-rest
invariant-loop-rest g l =
    let t = g.T.Told in
    Telling t.fits t.after t.answers t.can_tell t.most l.initial.now l.initial.rest l.initial.page l.page l.now l.rest

abbrev pub decreases-loop-rest : goal.decreases-loop-rest
decreases-loop-rest g l = length l.rest
