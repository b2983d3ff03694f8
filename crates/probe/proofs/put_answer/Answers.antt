-- `probe::put_answer` meets its contract.
-- Assumes nothing.
use Rattle.std.proofs.Common.{rules}
use Rattle.probe.proofs.CallWords.{put_step, put_target}
use Rattle.probe.proofs.put_answer.Goals as goal

pub returns-in-Step-clause-put : goal.returns-in-Step-clause-put
returns-in-Step-clause-put c = search (rules, put_step)

pub returns-in-Target-clause-put : goal.returns-in-Target-clause-put
returns-in-Target-clause-put c = search (rules, put_target)
