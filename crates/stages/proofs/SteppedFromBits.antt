-- Each signed word of a step's answer that is written, its number and its compares, comes back from its bits.
-- Assumes nothing.
use mathlib.Core.Path.{◌≡◌}
use mir.Facts.{to_z-of_z}
use mir.Syntax.{w32}
use denote.RattleType.{Valss}
use denote.Struct.Struct.{AreAll}
use denote.Struct.Declared.{fields}
use Rattle.fixed.proofs.Reading.{m32}
use Rattle.stages.specs.declared.Stepped.{Stepped}
use Rattle.stages.specs.contracts.Stepped.{the_type}

pub record FromBits (x : Stepped) : Type 0 where
  pub number : m32 x.number ≡ x.number
  pub a : m32 x.pulses.a ≡ x.pulses.a
  pub b : m32 x.pulses.b ≡ x.pulses.b
  pub c : m32 x.pulses.c ≡ x.pulses.c

pub from_bits : (x : Stepped) (vss : Valss (fields the_type)) → AreAll (fields the_type) (the_type.to x) vss → FromBits x
from_bits x vss g =
    let p = g.1.1.0.1.1 in
    record {
      number = to_z-of_z {w = w32} (record { sfits = g.1.0.1 });
      a = to_z-of_z {w = w32} (record { sfits = p.0.1 });
      b = to_z-of_z {w = w32} (record { sfits = p.1.0.1 });
      c = to_z-of_z {w = w32} (record { sfits = p.1.1.0.1 });
    }
