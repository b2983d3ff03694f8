-- `drive::step_sound` meets its contract.
-- Assumes nothing.
use Rattle.std.proofs.Common.{rules, ◌≡◌, to_z, of_z, w32}
use mir.Facts.{to_z-of_z}
use Rattle.fixed.proofs.Asked.{no, yes}
use Rattle.drive.specs.Calls.{stepped_sound}
use Rattle.drive.proofs.step_sound.Goals as goal

pub returns-then-d : goal.returns-then-d
unfolding stepped_sound
returns-then-d c =
    let t : to_z w32 (of_z w32 c.args.d.settings.t) ≡ c.args.d.settings.t = search rules in
    simp (c.refused.ensures, t, c.if-d.true)

pub returns-then-not-sample_ok : goal.returns-then-not-sample_ok
unfolding stepped_sound
returns-then-not-sample_ok c =
    let t : to_z w32 (of_z w32 c.args.d.settings.t) ≡ c.args.d.settings.t = search rules in
    let f = c.ranges in
    let ok = no c.sample_ok.ensures c.if-not-sample_ok.true in
    let k = rw (to_z-of_z f.ia, to_z-of_z f.ib, to_z-of_z f.count) at ok in
    simp (c.refused-then-not-sample_ok.ensures, c.with_trip.ensures, t, c.if-d.false, k)

pub returns : goal.returns
unfolding stepped_sound
returns c =
    let f = c.ranges in
    let ok = yes c.sample_ok.ensures c.if-not-sample_ok.false in
    let k = rw (to_z-of_z f.ia, to_z-of_z f.ib, to_z-of_z f.count) at ok in
    simp (c.advance.ensures, to_z-of_z f.ia, to_z-of_z f.ib, to_z-of_z f.count, c.if-d.false, k)
