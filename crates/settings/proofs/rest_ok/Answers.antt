-- `settings::rest_ok` meets its contract.
-- Assumes nothing.
use Rattle.settings.specs.Settings.{rest_ok}
use Rattle.settings.proofs.SettingsFromBits.{from_bits}
use Rattle.settings.proofs.rest_ok.Goals as goal

pub returns : goal.returns
unfolding rest_ok
returns c =
    let c5 = c.before.before in
    let c4 = c5.before.before in
    let c3 = c4.before.before in
    let c2 = c3.before.before in
    let c1 = c2.before.before in
    let s = c1.before.before in
    let b = from_bits s.args.s _ s.well_formed.0.1.1 in
    simp (
      c1.within.ensures,
      c2.within-2.ensures,
      c3.within-3.ensures,
      c4.within-4.ensures,
      c5.within-5.ensures,
      c.within-6.ensures,
      b.kr,
      b.kt,
      b.kth,
      b.kn,
      b.f,
      b.r,
    )
