-- `drive_record::command_ok` meets its contract.
-- Assumes nothing.
use Rattle.fixed.proofs.Reading.{fits, bound}
use Rattle.fixed.specs.Fixed.{inside as is_inside}
use Rattle.drive_record.specs.Record.{command_ok}
use Rattle.settings.proofs.SettingsFromBits.{from_bits, FromBits}
use Rattle.drive_record.proofs.CommandFromBits.{from_bits as told_command}
use Rattle.fixed.proofs.Asked.{field, wide}
use Rattle.drive_record.proofs.command_ok.Statement.{statement}
use Rattle.drive_record.proofs.command_ok.Tie as tie

back : (s : tie.Start) → FromBits s.args.s
back s = from_bits s.args.s _ s.well_formed.0.1.1

returns : tie.Need-returns
unfolding command_ok is_inside
returns c =
    let c3 = c.before.before.before in
    let c2 = c3.before.before.before.before in
    let c1 = c2.before.before in
    let s = c1.before.before in
    let b = told_command s.args.c _ s.well_formed.1.0.1.1 in
    simp (
      c1.within.ensures,
      c2.within-2.ensures,
      c3.inside.ensures,
      c.within-3.ensures,
      b.target,
      b.reference,
      b.torque,
      b.flux,
      (wide (back s).q).is,
      (back s).f,
    )

cast-inside : tie.Need-overflow_cast-s
cast-inside c = fits (field (back c.before.before.before.before.before.before).q) tt

inside-requires : tie.Need-inside-requires
inside-requires c κs = bound (wide (back c.before.before.before.before.before.before.before).q) tt

pub command_ok_spec : {M : Type 1} → statement M
command_ok_spec = tie.close (tie.spec (λ c κs. tt) (λ c κs. tt) cast-inside inside-requires (λ c κs. tt) returns)
