-- The bench set: its numbers, and that it is accepted; and that with current gains that are not tied it is refused, with 3.
-- Assumes nothing.
use mathlib.Core.Path.{◌≡◌, refl}
use mathlib.Core.Bool.{true}
use lib.IntN.{pos}
use Rattle.std.specs.Prelude.{Err}
use Rattle.fixed.specs.declared.refusal.Refusal.TheVariants.{Untied}
use Rattle.settings.specs.Settings.{period_ok, gain_ok, gains_ok, tied, gains_tied, limits_ok, rest_ok, accepted, checked}
use Rattle.settings.specs.BenchSettings.{bench_with, bench_settings}

pub bench_is : bench_settings ≡ bench_with (pos 4096) (pos 256) (pos 256)
unfolding bench_settings
bench_is = refl

pub bench_accepted : accepted bench_settings ≡ true
unfolding bench_settings accepted period_ok gains_ok gain_ok gains_tied tied limits_ok rest_ok
bench_accepted = refl

pub untied_refused : checked (bench_with (pos 16384) (pos 512) (pos 512)) ≡ Err Untied
unfolding checked period_ok gains_ok gain_ok gains_tied tied
untied_refused = refl
