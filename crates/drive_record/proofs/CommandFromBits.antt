-- Written by tools/from_bits: each signed word of a Command comes back from its bits.
-- Assumes nothing.
use mathlib.Core.Path.{◌≡◌}
use mir.Facts.{to_z-of_z}
use mir.Syntax.{w32}
use denote.RattleType.{Valss}
use denote.Struct.Struct.{AreAll}
use denote.Struct.Declared.{fields}
use Rattle.fixed.proofs.Reading.{m32}
use Rattle.drive_record.specs.declared.Command.{Command}
use Rattle.drive_record.specs.contracts.Command.{the_type}

pub record FromBits (this : Command) : Type 0 where
  pub target : m32 this.target ≡ this.target
  pub reference : m32 this.reference ≡ this.reference
  pub torque : m32 this.torque ≡ this.torque
  pub flux : m32 this.flux ≡ this.flux

pub from_bits : (this : Command) (vss : Valss (fields the_type)) → AreAll (fields the_type) (the_type.to this) vss → FromBits this
from_bits this vss g = record {
  target = to_z-of_z {w = w32} (record { sfits = g.0.1 });
  reference = to_z-of_z {w = w32} (record { sfits = g.1.0.1 });
  torque = to_z-of_z {w = w32} (record { sfits = g.1.1.0.1 });
  flux = to_z-of_z {w = w32} (record { sfits = g.1.1.1.0.1 });
}
