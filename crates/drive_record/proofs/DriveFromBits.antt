-- Written by tools/from_bits: each signed word of a Drive comes back from its bits.
-- Assumes nothing.
use denote.RattleType.{Valss}
use denote.Struct.Struct.{AreAll}
use denote.Struct.Declared.{fields}
use Rattle.drive_record.specs.declared.Drive.{Drive}
use Rattle.drive_record.specs.contracts.Drive.{the_type}
use Rattle.settings.proofs.SettingsFromBits.{FromBits as OfSettings, from_bits as of_settings}
use Rattle.shaft.proofs.ShaftFromBits.{FromBits as OfShaft, from_bits as of_shaft}
use Rattle.drive_record.proofs.CommandFromBits.{FromBits as OfCommand, from_bits as of_command}
use Rattle.field.proofs.FieldFromBits.{FromBits as OfField, from_bits as of_field}
use Rattle.drive_record.proofs.IntegralsFromBits.{FromBits as OfIntegrals, from_bits as of_integrals}

pub record FromBits (this : Drive) : Type 0 where
  pub settings : OfSettings this.settings
  pub shaft : OfShaft this.shaft
  pub command : OfCommand this.command
  pub field : OfField this.field
  pub integrals : OfIntegrals this.integrals

pub from_bits : (this : Drive) (vss : Valss (fields the_type)) → AreAll (fields the_type) (the_type.to this) vss → FromBits this
from_bits this vss g = record {
  settings = of_settings this.settings _ g.0.1.1;
  shaft = of_shaft this.shaft _ g.1.0.1.1;
  command = of_command this.command _ g.1.1.0.1.1;
  field = of_field this.field _ g.1.1.1.0.1.1;
  integrals = of_integrals this.integrals _ g.1.1.1.1.0.1.1;
}
