-- Written by tools/from_bits: each signed word of a Shaft comes back from its bits.
-- Assumes nothing.
use mathlib.Core.Path.{◌≡◌}
use mir.Facts.{to_z-of_z}
use mir.Syntax.{w32}
use denote.RattleType.{Valss}
use denote.Struct.Struct.{AreAll}
use denote.Struct.Declared.{fields}
use Rattle.fixed.proofs.Reading.{m32}
use Rattle.shaft.specs.declared.Shaft.{Shaft}
use Rattle.shaft.specs.contracts.Shaft.{the_type}

pub record FromBits (this : Shaft) : Type 0 where
  pub count : m32 this.count ≡ this.count
  pub sum : m32 this.sum ≡ this.sum
  pub steps : m32 this.steps ≡ this.steps
  pub speed : m32 this.speed ≡ this.speed

pub from_bits : (this : Shaft) (vss : Valss (fields the_type)) → AreAll (fields the_type) (the_type.to this) vss → FromBits this
from_bits this vss g = record {
  count = to_z-of_z {w = w32} (record { sfits = g.0.1 });
  sum = to_z-of_z {w = w32} (record { sfits = g.1.1.0.1 });
  steps = to_z-of_z {w = w32} (record { sfits = g.1.1.1.0.1 });
  speed = to_z-of_z {w = w32} (record { sfits = g.1.1.1.1.0.1 });
}
