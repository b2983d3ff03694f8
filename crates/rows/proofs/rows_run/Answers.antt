-- `rows::rows_run` meets its contract.
-- Assumes nothing.
use mathlib.Core.Path.{◌≡◌, refl}
use Prim.Native.Nat.{◌*◌}
use native.Mathlib.Omega.{arith}
use Rattle.drive_record.proofs.Ranges.{sound→, sound←}
use Rattle.rows.proofs.Lists.{put_four}
use Rattle.rows.proofs.Runs.{more, one_most}
use Rattle.rows.specs.Rows.{four, is_accepted, is_clipped, no_rows, ran_of, written_of}
use Rattle.rows.proofs.rows_run.Goals as goal

pub returns : goal.returns
returns c =
    let l = c.before.loop-i in
    let e : c.before.before.args.n ≡ l.i = omega arith in
    (rw e l.invariant.ran, rw e l.invariant.wrote)

pub loop-i-init : goal.loop-i-init
unfolding ran_of no_rows written_of
loop-i-init c = record {
  low = omega arith;
  is_sound = sound→ c.args.d c.requires.0;
  ran = refl;
  few = omega arith;
  fewer = omega arith;
  long = refl;
  wrote = refl;
  small = omega arith;
}

pub loop-i-preserved : goal.loop-i-preserved
unfolding four
loop-i-preserved c =
    let u = c.loop-i.invariant in
    let s = c.row_step-s.result in
    let put = put_four s.pulses.a s.pulses.b s.pulses.c s.number c.loop-i.out (4 * c.loop-i.i) c.put_row.ensures (omega (arith, u.long, u.small)) in
    more u s _ c.accepted_in-accepted.result c.clipped_in-clipped.result c.loop-i-test.true
    c.row_step-s.ensures put.0 put.1 c.accepted_in-accepted.ensures c.clipped_in-clipped.ensures

pub row_step-s-requires : goal.row_step-s-requires
row_step-s-requires c = (sound← c.before.loop-i.cur c.before.loop-i.invariant.is_sound, omega arith)

pub overflow_add-accepted : goal.overflow_add-accepted
overflow_add-accepted c = omega (arith, one_most (is_accepted c.before.before.before.before.row_step-s.result))

pub overflow_add-clipped : goal.overflow_add-clipped
overflow_add-clipped c = omega (arith, one_most (is_clipped c.before.before.before.before.before.row_step-s.result))

pub shape_of-out : goal.shape_of-out
shape_of-out c = c.before.loop-i.invariant.long
