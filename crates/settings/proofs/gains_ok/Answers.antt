-- `settings::gains_ok` meets its contract.
-- Assumes nothing.
use Rattle.settings.specs.Settings.{gains_ok}
use Rattle.settings.proofs.SettingsFromBits.{from_bits}
use Rattle.settings.proofs.gains_ok.Goals as goal

pub returns : goal.returns
unfolding gains_ok
returns c =
    let k = c.before.before.before.before in
    let s = k.before.before.before.before in
    let b = from_bits s.args.s _ s.well_formed.0.1.1 in
    simp (k.gain_ok.ensures, c.gain_ok-2.ensures, b.skp, b.skcor, b.ski, b.ckp, b.ckcor, b.cki)
