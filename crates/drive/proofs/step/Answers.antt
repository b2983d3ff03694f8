-- `drive::step` meets its contract.
-- Assumes nothing.
use mir.Facts.{to_z-of_z}
use Rattle.fixed.proofs.Asked.{yes}
use Rattle.drive.specs.Calls.{stepped, stepped_sound}
use Rattle.drive_record.specs.Record.{broken}
use Rattle.drive.proofs.step.Goals as goal

pub returns : goal.returns
unfolding stepped stepped_sound broken
returns c =
    let f = c.ranges in
    let sound = yes c.sound.ensures c.if-not-sound.false in
    simp (c.step_sound.ensures, to_z-of_z f.ia, to_z-of_z f.ib, to_z-of_z f.count, sound)
