-- `settings::words_of` meets its contract.
-- Assumes nothing.
use Rattle.settings.specs.Words.{words_of}
use Rattle.settings.proofs.SettingsFromBits.{from_bits}
use Rattle.settings.proofs.words_of.Goals as goal

pub returns : goal.returns
unfolding words_of
returns c =
    let s = c.before in
    let b = from_bits s.args.s _ s.well_formed.0.1.1 in
    simp (b.t, b.skp, b.skcor, b.ski, b.ckp, b.ckcor, b.cki, b.v, b.q, b.kr, b.kt, b.kth, b.kn, b.f, b.r)
