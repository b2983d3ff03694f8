-- `shaft::weakened` meets its contract: above speed 1.0 the quotient is small.
-- Assumes nothing.
use Rattle.std.proofs.Common.{◌≡◌, w32, w64, rules}
use Rattle.fixed.proofs.Reading.{Reads, result, stored, fits}
use Rattle.shaft.specs.Shaft.{size_of, weakened as weakened_of}
use Rattle.shaft.proofs.Weakening.{weakened_small}
use Rattle.shaft.proofs.weakened.Goals as goal

is : (c : goal.After-scaled) → c.scaled.result ≡ weakened_of c.args.f c.args.n
unfolding weakened_of size_of
is c = search rules

flux : (c : goal.After-scaled) → Reads c.scaled.result (weakened_of c.args.f c.args.n) 33550336
flux c = result (is c) (weakened_small c.args.f c.args.n c.requires.0)

pub returns-else-slow : goal.returns-else-slow
returns-else-slow c = (stored w32 (stored w64 (flux c) tt) tt).is

pub overflow_cast-result : goal.overflow_cast-result
overflow_cast-result c = fits (stored w64 (flux c) tt) tt
