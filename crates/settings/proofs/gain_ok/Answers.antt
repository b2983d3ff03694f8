-- `settings::gain_ok` meets its contract.
-- Assumes nothing.
use mir.Facts.{to_z-of_z}
use Rattle.settings.specs.Settings.{gain_ok}
use Rattle.settings.proofs.gain_ok.Goals as goal

pub returns : goal.returns
unfolding gain_ok
returns c =
    let f = c.before.before.before.ranges in
    cc (to_z-of_z f.kp, to_z-of_z f.kcor, to_z-of_z f.ki)
