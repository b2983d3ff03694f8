-- `values::put_gain` meets its contract.
-- Assumes nothing.
use native.Mathlib.Omega.{arith}
use Prim.Native.Nat.{◌/◌, ◌%◌, ◌<◌}
use Rattle.writing.proofs.PageLaws.{then}
use Rattle.values.proofs.ValueLaws.{gain_plain, gain_point}
use Rattle.values.proofs.put_gain.Goals as goal

pub returns-then-f-ne0 : goal.returns-then-f-ne0
returns-then-f-ne0 c =
    let f : 0 < c.args.w % 4096 = omega (arith, c.if-f-ne0.true) in
    rw (gain_point (c.args.w / 4096) (c.args.w % 4096) c.args.w f (omega arith) (omega arith))
    (then c.put_count.ensures.put (then c.put_byte.ensures c.put_fraction.ensures))

pub returns-else-f-ne0 : goal.returns-else-f-ne0
returns-else-f-ne0 c =
    rw (gain_plain (c.args.w / 4096) (c.args.w % 4096) c.args.w (omega (arith, c.if-f-ne0.false)) (omega arith)) c.put_count.ensures.put
