-- Written by tools/from_bits: each signed word of a Row comes back from its bits.
-- Assumes nothing.
use mathlib.Core.Path.{◌≡◌}
use mir.Facts.{to_z-of_z}
use mir.Syntax.{w32}
use denote.RattleType.{Valss}
use denote.Struct.Struct.{AreAll}
use denote.Struct.Declared.{fields}
use Rattle.fixed.proofs.Reading.{m32}
use Rattle.moments.specs.declared.Row.{Row}
use Rattle.moments.specs.contracts.Row.{the_type}

pub record FromBits (this : Row) : Type 0 where
  pub ia : m32 this.ia ≡ this.ia
  pub ib : m32 this.ib ≡ this.ib
  pub speed : m32 this.speed ≡ this.speed
  pub a : m32 this.a ≡ this.a
  pub b : m32 this.b ≡ this.b
  pub c : m32 this.c ≡ this.c

pub from_bits : (this : Row) (vss : Valss (fields the_type)) → AreAll (fields the_type) (the_type.to this) vss → FromBits this
from_bits this vss g = record {
  ia = to_z-of_z {w = w32} (record { sfits = g.0.1 });
  ib = to_z-of_z {w = w32} (record { sfits = g.1.0.1 });
  speed = to_z-of_z {w = w32} (record { sfits = g.1.1.0.1 });
  a = to_z-of_z {w = w32} (record { sfits = g.1.1.1.0.1 });
  b = to_z-of_z {w = w32} (record { sfits = g.1.1.1.1.0.1 });
  c = to_z-of_z {w = w32} (record { sfits = g.1.1.1.1.1.0.1 });
}
