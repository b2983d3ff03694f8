-- Written by tools/from_bits: each signed word of a Rotor comes back from its bits.
-- Assumes nothing.
use mathlib.Core.Path.{◌≡◌}
use mir.Facts.{to_z-of_z}
use mir.Syntax.{w32}
use denote.RattleType.{Valss}
use denote.Struct.Struct.{AreAll}
use denote.Struct.Declared.{fields}
use Rattle.fixed.proofs.Reading.{m32}
use Rattle.frames.specs.declared.Rotor.{Rotor}
use Rattle.frames.specs.contracts.Rotor.{the_type}

pub record FromBits (this : Rotor) : Type 0 where
  pub d : m32 this.d ≡ this.d
  pub q : m32 this.q ≡ this.q

pub from_bits : (this : Rotor) (vss : Valss (fields the_type)) → AreAll (fields the_type) (the_type.to this) vss → FromBits this
from_bits this vss g = record {
  d = to_z-of_z {w = w32} (record { sfits = g.0.1 });
  q = to_z-of_z {w = w32} (record { sfits = g.1.0.1 });
}
