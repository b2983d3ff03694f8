-- `values::put_fraction` meets its contract. The measure is how many digits there is room for.
-- Assumes nothing.
use native.Mathlib.Omega.{arith}
use Rattle.values.proofs.Putting.{dividing_start, dividing_left, dividing_more, dividing_end}
use Rattle.values.proofs.put_fraction.Goals as goal

pub loop-rest-init : goal.loop-rest-init
loop-rest-init c = dividing_start c.args.f c.args.page.now c.requires.0 c.requires.1

pub put_byte-requires : goal.put_byte-requires
put_byte-requires c = omega (arith, c.loop-rest.invariant.room, dividing_left c.loop-rest.invariant c.loop-rest-test.true)

pub loop-rest-smaller : goal.loop-rest-smaller
loop-rest-smaller c = omega (arith, c.put_byte.ensures.place, c.loop-rest.invariant.sum, dividing_left c.loop-rest.invariant c.loop-rest-test.true)

pub loop-rest-preserved : goal.loop-rest-preserved
loop-rest-preserved c = dividing_more c.loop-rest.invariant c.loop-rest-test.true c.put_byte.ensures

pub returns : goal.returns
returns c = dividing_end c.loop-rest.invariant c.loop-rest-test.false
