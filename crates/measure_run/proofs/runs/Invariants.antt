-- `measure_run::runs` is safe.
use Rattle.std.proofs.Common.{◌≤◌}
use Rattle.measure_run.proofs.runs.Given as goal

abbrev pub invariant-loop : goal.invariant-loop
invariant-loop l = l.start ≤ l.other
