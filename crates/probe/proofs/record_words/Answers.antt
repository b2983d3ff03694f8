-- `probe::record_words` meets its contract.
-- Assumes nothing.
use Rattle.std.proofs.Common.{refl}
use Rattle.drive_record.proofs.DriveFromBits.{from_bits}
use Rattle.probe.specs.Calls.{record_words}
use Rattle.probe.proofs.CallWords.{told_flag}
use Rattle.probe.proofs.record_words.Goals as goal

pub returns : goal.returns
unfolding record_words
returns c =
    let d = c.args.d in
    let b = from_bits d _ c.well_formed.0.1.1 in
    rw (
      b.shaft.count,
      told_flag d.shaft.seen c.from.ensures,
      b.shaft.sum,
      b.shaft.steps,
      b.shaft.speed,
      b.command.target,
      b.command.reference,
      b.command.torque,
      b.command.flux,
      b.field.fine,
      b.field.angle,
      b.integrals.speed,
      b.integrals.d,
      b.integrals.q,
      told_flag d.tripped c.from-2.ensures,
    ) refl
