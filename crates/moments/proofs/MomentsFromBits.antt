-- Written by tools/from_bits: each signed word of a Moments comes back from its bits.
-- Assumes nothing.
use mathlib.Core.Path.{◌≡◌}
use mir.Facts.{to_z-of_z}
use mir.Syntax.{w32}
use denote.RattleType.{Valss}
use denote.Struct.Struct.{AreAll}
use denote.Struct.Declared.{fields}
use Rattle.fixed.proofs.Reading.{m32}
use Rattle.moments.specs.declared.Moments.{Moments}
use Rattle.moments.specs.contracts.Moments.{the_type}

pub record FromBits (this : Moments) : Type 0 where
  pub next : m32 this.next ≡ this.next
  pub real : m32 this.real ≡ this.real

pub from_bits : (this : Moments) (vss : Valss (fields the_type)) → AreAll (fields the_type) (the_type.to this) vss → FromBits this
from_bits this vss g = record {
  next = to_z-of_z {w = w32} (record { sfits = g.1.1.1.1.1.1.0.1 });
  real = to_z-of_z {w = w32} (record { sfits = g.1.1.1.1.1.1.1.0.1 });
}
