-- `shaft::ramped_to` meets its contract: what is held is small.
-- Assumes nothing.
use Rattle.std.proofs.Common.{◌≡◌, w32, w64, rules}
use Rattle.fixed.proofs.Reading.{Reads, result, stored, fits}
use Rattle.shaft.specs.Shaft.{ramped_to}
use Rattle.shaft.proofs.Ramp.{ramp_small}
use Rattle.shaft.proofs.ramped_to.Goals as goal

is : (c : goal.After-hold) → c.hold.result ≡ ramped_to c.args.reference c.args.target c.args.r
unfolding ramped_to
is c = search rules

moved : (c : goal.After-hold) → Reads c.hold.result (ramped_to c.args.reference c.args.target c.args.r) 16382
moved c = result (is c) (ramp_small c.args.reference c.args.target c.args.r c.requires.0 c.requires.1 c.requires.2)

pub returns : goal.returns
returns c = (stored w32 (stored w64 (moved c) tt) tt).is

pub overflow_cast-result : goal.overflow_cast-result
overflow_cast-result c = fits (stored w64 (moved c) tt) tt
