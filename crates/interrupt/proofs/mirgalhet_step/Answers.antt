-- `mirgalhet_step` meets its contract: the record and what it answers are those of `drive::step`.
-- Assumes nothing.
use Rattle.std.proofs.Common.{rules, ◌≡◌, refl}
use Rattle.drive.specs.Calls.{stepped}
use Rattle.interrupt.proofs.mirgalhet_step.Goals as goal

pub returns : goal.returns
returns c = let e : c.step-s.result ≡ stepped c.args.d.now c.args.ia c.args.ib c.args.count = search rules in rw (c.from.ensures, e) (refl, refl)
