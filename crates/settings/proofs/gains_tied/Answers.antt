-- `settings::gains_tied` meets its contract.
-- Assumes nothing.
use Rattle.settings.specs.Settings.{gains_tied}
use Rattle.settings.proofs.SettingsFromBits.{from_bits}
use Rattle.settings.proofs.gains_tied.Goals as goal

pub returns : goal.returns
unfolding gains_tied
returns c =
    let k = c.before.before.before.before in
    let s = k.before.before.before.before in
    let b = from_bits s.args.s _ s.well_formed.0.1.1 in
    simp (k.tied.ensures, c.tied-2.ensures, b.skp, b.skcor, b.ski, b.ckp, b.ckcor, b.cki)
