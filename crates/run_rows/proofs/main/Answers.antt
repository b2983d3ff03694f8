-- `run_rows::main` is safe: the fresh drive of settings that are accepted is sound.
-- Assumes nothing.
use Rattle.std.proofs.Common.{sym, ◌∙◌, ap, arith}
use Rattle.drive_record.specs.Record.{sound}
use Rattle.drive.proofs.Kept.{checked_sound}
use Rattle.run_rows.proofs.main.Goals as goal

pub run_through-requires : goal.run_through-requires
run_through-requires c = (ap sound c.fresh-d.ensures ∙ checked_sound _ _ (sym c.in-Ok.ensures), omega arith, omega arith, omega arith)
