-- `modulation::time` meets its contract: the quotient is small.
-- Assumes nothing.
use borrow.Author.Rules.{rules}
use mathlib.Core.Path.{◌≡◌}
use mir.Syntax.{w32, w64}
use Rattle.fixed.proofs.Reading.{Reads, result, stored, fits}
use Rattle.modulation.specs.Modulation.{time_of}
use Rattle.modulation.proofs.Sizes.{time_size}
use Rattle.modulation.proofs.time.Goals as goal

is : (c : goal.After-scaled) → c.scaled.result ≡ time_of c.args.t c.args.e
unfolding time_of
is c = search rules

out : (c : goal.After-scaled) → Reads c.scaled.result (time_of c.args.t c.args.e) 100000
out c = result (is c) (time_size c.args.t c.args.e c.requires.0 c.requires.1)

pub returns : goal.returns
returns c = (stored w32 (stored w64 (out c) tt) tt).is

pub overflow_cast-result : goal.overflow_cast-result
overflow_cast-result c = fits (stored w64 (out c) tt) tt
