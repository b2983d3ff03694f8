-- Written by tools/from_bits: each signed word of a Field comes back from its bits.
-- Assumes nothing.
use mathlib.Core.Path.{◌≡◌}
use mir.Facts.{to_z-of_z}
use mir.Syntax.{w32}
use denote.RattleType.{Valss}
use denote.Struct.Struct.{AreAll}
use denote.Struct.Declared.{fields}
use Rattle.fixed.proofs.Reading.{m32}
use Rattle.field.specs.declared.Field.{Field}
use Rattle.field.specs.contracts.Field.{the_type}

pub record FromBits (this : Field) : Type 0 where
  pub fine : m32 this.fine ≡ this.fine
  pub angle : m32 this.angle ≡ this.angle

pub from_bits : (this : Field) (vss : Valss (fields the_type)) → AreAll (fields the_type) (the_type.to this) vss → FromBits this
from_bits this vss g = record {
  fine = to_z-of_z {w = w32} (record { sfits = g.0.1 });
  angle = to_z-of_z {w = w32} (record { sfits = g.1.0.1 });
}
