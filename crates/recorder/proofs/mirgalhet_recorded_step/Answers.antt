-- `mirgalhet_recorded_step` meets its contract: the drive record and the answer are those of `drive::step`, and its row is kept.
-- Assumes nothing.
use Rattle.std.proofs.Common.{rules, ◌≡◌, refl}
use Rattle.drive.specs.Calls.{stepped}
use Rattle.moments.specs.Moments.{kept}
use Rattle.recorder.proofs.mirgalhet_recorded_step.Goals as goal

pub returns : goal.returns
returns c =
    let s = c.step-s.result in
    let e : s ≡ stepped c.args.d.now c.args.ia c.args.ib c.args.count = search rules in
    let k : c.keep.new.m ≡ kept c.args.m.now c.args.ia c.args.ib s = search rules in
    rw (c.from.ensures, k, e) (refl, refl, refl)
