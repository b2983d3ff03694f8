-- `probe::run_through` counts the calls of the whole input.
-- Assumes nothing.
use Rattle.probe.proofs.Whole.{counted}
use Rattle.probe.proofs.run_through.Goals as goal

pub returns : goal.returns
returns g c = counted _ _ _ _ _ _ _ _ c.start.ensures c.in_ok-s.ensures.through
