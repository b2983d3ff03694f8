-- `drive_record::words_ok` meets its contract.
-- Assumes nothing.
use Rattle.drive_record.specs.Record.{words_ok}
use Rattle.drive_record.proofs.words_ok.Goals as goal

pub returns : goal.returns
unfolding words_ok
returns c =
    let c3 = c.before in
    let c2 = c3.before in
    simp (c2.before.shaft_ok.ensures, c2.command_ok.ensures, c3.field_ok.ensures, c.integrals_ok.ensures)
