-- `drive::target` meets its contract.
-- Assumes nothing.
use mir.Facts.{to_z-of_z}
use Rattle.fixed.proofs.Asked.{no, yes}
use Rattle.fixed.proofs.Reading.{word}
use Rattle.stages.proofs.Samples.{inside_is}
use Rattle.drive_record.specs.Record.{broken, target_end}
use Rattle.drive.specs.Calls.{targeted}
use Rattle.drive.proofs.target.Goals as goal

pub returns-then-not-within : goal.returns-then-not-within
unfolding targeted broken
returns-then-not-within c =
    let within = inside_is target_end c.within.ensures (word c.ranges.wanted) in
    let sound = yes c.sound.ensures c.if-not-sound.false in
    simp (c.answer-then-not-within.ensures, sound, c.if-d.false, no within c.if-not-within.true)

pub returns : goal.returns
unfolding targeted broken
returns c =
    let within = inside_is target_end c.within.ensures (word c.ranges.wanted) in
    let sound = yes c.sound.ensures c.if-not-sound.false in
    simp (c.answer-2.ensures, c.with_target.ensures, to_z-of_z c.ranges.wanted, sound, c.if-d.false, yes within c.if-not-within.false)
