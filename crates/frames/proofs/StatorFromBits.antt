-- Written by tools/from_bits: each signed word of a Stator comes back from its bits.
-- Assumes nothing.
use mathlib.Core.Path.{◌≡◌}
use mir.Facts.{to_z-of_z}
use mir.Syntax.{w32}
use denote.RattleType.{Valss}
use denote.Struct.Struct.{AreAll}
use denote.Struct.Declared.{fields}
use Rattle.fixed.proofs.Reading.{m32}
use Rattle.frames.specs.declared.Stator.{Stator}
use Rattle.frames.specs.contracts.Stator.{the_type}

pub record FromBits (this : Stator) : Type 0 where
  pub alpha : m32 this.alpha ≡ this.alpha
  pub beta : m32 this.beta ≡ this.beta

pub from_bits : (this : Stator) (vss : Valss (fields the_type)) → AreAll (fields the_type) (the_type.to this) vss → FromBits this
from_bits this vss g = record {
  alpha = to_z-of_z {w = w32} (record { sfits = g.0.1 });
  beta = to_z-of_z {w = w32} (record { sfits = g.1.0.1 });
}
