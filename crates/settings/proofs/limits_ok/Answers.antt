-- `settings::limits_ok` meets its contract.
-- Assumes nothing.
use Rattle.settings.specs.Settings.{limits_ok}
use Rattle.settings.proofs.SettingsFromBits.{from_bits}
use Rattle.settings.proofs.limits_ok.Goals as goal

pub returns : goal.returns
unfolding limits_ok
returns c =
    let k = c.before.before in
    let s = k.before.before in
    let b = from_bits s.args.s _ s.well_formed.0.1.1 in
    simp (k.within.ensures, c.within-2.ensures, b.v, b.q)
