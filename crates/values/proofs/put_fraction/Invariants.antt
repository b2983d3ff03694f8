-- `values::put_fraction` meets its contract. The measure is how many digits there is room for.
-- Assumes nothing.
use Prim.Native.Nat.{◌+◌, ◌-◌}
use Rattle.values.proofs.Putting.{Dividing}
use Rattle.values.proofs.put_fraction.Given as goal

abbrev pub invariant-loop-rest : goal.invariant-loop-rest
invariant-loop-rest l = Dividing l.f l.initial.page l.rest l.page

abbrev pub decreases-loop-rest : goal.decreases-loop-rest
decreases-loop-rest l = l.initial.page.at + 12 - l.page.at
