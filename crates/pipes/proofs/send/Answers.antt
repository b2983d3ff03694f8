-- `pipes::send` sends a longer front with each turn.
-- Assumes nothing.
use Rattle.std.proofs.Common.{refl, arith}
use Rattle.std.proofs.lemmas.Bool.Decides.{nat_tests}
use Rattle.pipes.proofs.Fronts.{kept_none, less_front, front_less, front_more}
use Rattle.pipes.proofs.send.Goals as goal

pub returns-in_default-clause-less : goal.returns-in_default-clause-less
returns-in_default-clause-less g c =
    (refl, front_less _ _ _ _ _ _ c.loop-rest.invariant.1 c.loop-rest.invariant.2 (kept_none _ _ c.in_default.ensures.bytes) (grind (arith, nat_tests)))

pub returns-in_default-clause-part : goal.returns-in_default-clause-part
returns-in_default-clause-part g c =
    less_front _ _ _ _ (front_less _ _ _ _ _ _ c.loop-rest.invariant.1 c.loop-rest.invariant.2 (kept_none _ _ c.in_default.ensures.bytes) (grind (arith, nat_tests)))

pub returns-then-taken-eq0-clause-less : goal.returns-then-taken-eq0-clause-less
returns-then-taken-eq0-clause-less g c =
    (refl, front_less _ _ _ _ _ _ c.loop-rest.invariant.1 c.loop-rest.invariant.2 (rw c.if-taken-eq0.true at c.in-Ok.ensures.bytes) (grind (arith, nat_tests)))

pub returns-then-taken-eq0-clause-part : goal.returns-then-taken-eq0-clause-part
returns-then-taken-eq0-clause-part g c =
    less_front _ _ _ _ (front_less _ _ _ _ _ _ c.loop-rest.invariant.1 c.loop-rest.invariant.2 (rw c.if-taken-eq0.true at c.in-Ok.ensures.bytes) (grind (arith, nat_tests)))

pub loop-rest-preserved : goal.loop-rest-preserved
loop-rest-preserved g c = front_more _ _ _ _ _ _ c.loop-rest.invariant.1 c.loop-rest.invariant.2 c.in-Ok.taken c.in-Ok.ensures.bound c.in-Ok.ensures.bytes
