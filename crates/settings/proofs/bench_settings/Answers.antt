-- `settings::bench_settings` is the bench set.
-- Assumes nothing.
use mathlib.Core.Path.{refl}
use Rattle.settings.specs.BenchSettings.{bench_settings}
use Rattle.settings.proofs.bench_settings.Goals as goal

pub returns : goal.returns
unfolding bench_settings
returns c = refl
