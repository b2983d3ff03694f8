-- Written by tools/from_bits: each signed word of a Regulated comes back from its bits.
-- Assumes nothing.
use mathlib.Core.Path.{◌≡◌}
use mir.Facts.{to_z-of_z}
use mir.Syntax.{w32}
use denote.RattleType.{Valss}
use denote.Struct.Struct.{AreAll}
use denote.Struct.Declared.{fields}
use Rattle.fixed.proofs.Reading.{m32}
use Rattle.regulator.specs.declared.Regulated.{Regulated}
use Rattle.regulator.specs.contracts.Regulated.{the_type}

pub record FromBits (this : Regulated) : Type 0 where
  pub out : m32 this.out ≡ this.out
  pub x : m32 this.x ≡ this.x

pub from_bits : (this : Regulated) (vss : Valss (fields the_type)) → AreAll (fields the_type) (the_type.to this) vss → FromBits this
from_bits this vss g = record {
  out = to_z-of_z {w = w32} (record { sfits = g.0.1 });
  x = to_z-of_z {w = w32} (record { sfits = g.1.0.1 });
}
