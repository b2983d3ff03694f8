-- `rows::row_step` meets its contract: on a sound record a step is what `drive::step_sound` does.
-- Assumes nothing.
use mathlib.Core.Path.{◌∙◌, sym}
use Prim.Native.Nat.{◌+◌, ◌*◌}
use lib.IntN.{pos}
use lib.ListN.{get_or}
use Rattle.fixed.proofs.Equal.{ap₃}
use Rattle.fixed.proofs.Reading.{read_ok32}
use Rattle.drive_record.proofs.Ranges.{sound→}
use Rattle.drive.specs.Calls.{stepped_sound}
use Rattle.drive.proofs.Kept.{step_is_sound}
use Rattle.rows.specs.Rows.{row_stepped}
use Rattle.rows.proofs.row_step.Goals as goal

pub returns : goal.returns
unfolding row_stepped
returns c =
    let k = c.before in
    let s = k.before.before.before in
    let d = s.args.d in
    let l = s.args.samples.now in
    let i = s.args.i in
    c.step_sound.ensures
    ∙ ap₃ (stepped_sound d) (read_ok32 (get_or l (3 * i) (pos 0)) k.before.before.ia-1.given)
    (read_ok32 (get_or l (3 * i + 1) (pos 0)) k.before.ib-1.given) (read_ok32 (get_or l (3 * i + 2) (pos 0)) k.count-1.given)
    ∙ sym (step_is_sound d _ _ _ (sound→ d s.requires.0))

pub step_sound-requires : goal.step_sound-requires
step_sound-requires c = c.before.before.before.requires.0
