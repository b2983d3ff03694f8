-- `settings::period_ok` meets its contract.
-- Assumes nothing.
use Rattle.settings.specs.Settings.{period_ok}
use Rattle.settings.proofs.SettingsFromBits.{from_bits}
use Rattle.settings.proofs.period_ok.Goals as goal

pub returns : goal.returns
unfolding period_ok
returns c =
    let s = c.before.before in
    simp (c.within.ensures, (from_bits s.args.s _ s.well_formed.0.1.1).t)
