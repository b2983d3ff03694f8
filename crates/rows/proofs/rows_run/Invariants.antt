-- `rows::rows_run` meets its contract.
-- Assumes nothing.
use Rattle.rows.proofs.Runs.{Upto}
use Rattle.rows.proofs.rows_run.Given as goal

abbrev pub invariant-loop-i : goal.invariant-loop-i
invariant-loop-i l = Upto l.initial.cur l.samples l.initial.out l.n l.out l.cur l.accepted l.clipped l.i
