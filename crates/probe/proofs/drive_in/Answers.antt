-- `probe::drive_in` meets its contract.
-- Assumes nothing.
use Rattle.std.proofs.Common.{◌≡◌, get_or, pos, to_z, of_z, w32, refl, rules}
use Rattle.probe.specs.Calls.{drive_at}
use Rattle.probe.proofs.drive_in.Goals as goal

pub returns-clause-value : goal.returns-clause-value
unfolding drive_at
returns-clause-value c =
    let word : to_z w32 (of_z w32 (get_or c.args.n.now 30 (pos 0))) ≡ get_or c.args.n.now 30 (pos 0) = search rules in
    let tripped = c.in_ok-flag.ensures.value in
    rw (
      c.settings_in.ensures,
      c.in_ok-shaft_in.ensures.value,
      c.command_in.ensures,
      c.field_in.ensures,
      c.integrals_in.ensures,
      tripped,
      word,
    ) refl
