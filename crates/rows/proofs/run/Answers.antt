-- `rows::run` meets its contract.
-- Assumes nothing.
use Rattle.std.proofs.Common.{◌≡◌, refl, ap, true, not, arith}
use Rattle.drive_record.specs.Record.{sound, broken}
use Rattle.fixed.proofs.Asked.{no, yes}
use Rattle.rows.proofs.Outcomes.{room, run_14, run_9, run_0}
use Rattle.rows.proofs.run.Goals as goal

pub returns-then-broken : goal.returns-then-broken
unfolding broken
returns-then-broken c =
    let s = c.args in
    let r = run_14 s.d s.samples.now s.out.now (ap not (no c.sound-intact.ensures c.if-broken.true)) in
    rw (r.0, r.1) (c.no_rows.ensures, refl)

pub returns-then-not-rows_fit : goal.returns-then-not-rows_fit
unfolding broken
returns-then-not-rows_fit c =
    let s = c.args in
    let k : sound s.d ≡ true = yes c.sound-intact.ensures c.if-broken.false in
    let r = run_9 s.d s.samples.now s.out.now (ap not k) (no c.rows_fit.ensures c.if-not-rows_fit.true) in
    rw (r.0, r.1) (c.no_rows-then-not-rows_fit.ensures, refl)

pub rows_run-requires : goal.rows_run-requires
rows_run-requires c =
    let k : sound c.args.d ≡ true = yes c.sound-intact.ensures c.if-broken.false in
    (k, omega arith, room _ _ (yes c.rows_fit.ensures c.if-not-rows_fit.false))

pub returns : goal.returns
unfolding broken
returns c =
    let s = c.args in
    let k : sound s.d ≡ true = yes c.sound-intact.ensures c.if-broken.false in
    let r = run_0 s.d s.samples.now s.out.now (ap not k) (yes c.rows_fit.ensures c.if-not-rows_fit.false) in
    rw (r.0, r.1) c.rows_run.ensures
