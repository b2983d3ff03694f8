-- `shaft::counted` meets its contract: word by word.
-- Assumes nothing.
use Rattle.std.proofs.Common.{true, ℤ, rules}
use Rattle.fixed.proofs.Equal.{ap₄}
use Rattle.shaft.specs.Shaft.{counted as counted_of}
use Rattle.shaft.proofs.counted.Goals as goal

pub returns : goal.returns
unfolding counted_of
returns c =
    ap₄ (λ (a b d e : ℤ). record { count = a; seen = true; sum = b; steps = d; speed = e }) (search rules) (search rules) (search rules) (search rules)
