-- `sine::quarter` meets its contract: what is kept is what the checker computes from the ladder.
-- Assumes nothing.
use borrow.Author.Rules.{rules}
use Rattle.sine.proofs.Kept.{kept_is}
use Rattle.sine.proofs.quarter.Goals as goal

pub returns : goal.returns
returns c = rw (← kept_is) (search rules)
