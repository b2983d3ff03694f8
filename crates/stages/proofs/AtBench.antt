-- The values that a step of the bench drive needs, gathered from the crates that own them, so that what stands above cites them from here; and the
-- samples that it takes, no current, 3000 either way and 2458 with −1229, and does not take, 9000.
-- Assumes nothing.
use mathlib.Core.Path.{◌≡◌, refl}
use mathlib.Core.Bool.{Bool, true, false}
use lib.IntN.{ℤ, pos, negsuc}
use Rattle.fixed.specs.Fixed.{inside}
use Rattle.stages.specs.Step.{sample_ok}
pub use Rattle.sine.proofs.AtZero.{sine_at_0, cosine_at_0}
pub use Rattle.regulator.proofs.AtBench.{from_zero}
pub use Rattle.frames.proofs.AtBench.{seen, along_d, turned_back}
pub use Rattle.field.proofs.AtBench.{stays_still}
pub use Rattle.shaft.proofs.AtBench.{standing, standing_in, start, tick, ramp}
pub use Rattle.modulation.proofs.AtBench.{flux_pulses}
pub use Rattle.settings.proofs.AtBench.{bench_is, bench_accepted, untied_refused}

abbrev taken : ℤ → Bool
taken ia = sample_ok ia (pos 0) (pos 0)

pub samples : (taken (pos 0) ≡ true) × (taken (pos 3000) ≡ true) × (taken (negsuc 2999) ≡ true) × (taken (pos 9000) ≡ false)
unfolding sample_ok inside
samples = (refl, refl, refl, refl)

pub sample_along_d : sample_ok (pos 2458) (negsuc 1228) (pos 0) ≡ true
unfolding sample_ok inside
sample_along_d = refl
