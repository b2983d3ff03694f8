-- Written by tools/from_bits: each signed word of a Settings comes back from its bits.
-- Assumes nothing.
use mathlib.Core.Path.{◌≡◌}
use mir.Facts.{to_z-of_z}
use mir.Syntax.{w32}
use denote.RattleType.{Valss}
use denote.Struct.Struct.{AreAll}
use denote.Struct.Declared.{fields}
use Rattle.fixed.proofs.Reading.{m32}
use Rattle.settings.specs.declared.Settings.{Settings}
use Rattle.settings.specs.contracts.Settings.{the_type}

pub record FromBits (this : Settings) : Type 0 where
  pub t : m32 this.t ≡ this.t
  pub skp : m32 this.skp ≡ this.skp
  pub skcor : m32 this.skcor ≡ this.skcor
  pub ski : m32 this.ski ≡ this.ski
  pub ckp : m32 this.ckp ≡ this.ckp
  pub ckcor : m32 this.ckcor ≡ this.ckcor
  pub cki : m32 this.cki ≡ this.cki
  pub v : m32 this.v ≡ this.v
  pub q : m32 this.q ≡ this.q
  pub kr : m32 this.kr ≡ this.kr
  pub kt : m32 this.kt ≡ this.kt
  pub kth : m32 this.kth ≡ this.kth
  pub kn : m32 this.kn ≡ this.kn
  pub f : m32 this.f ≡ this.f
  pub r : m32 this.r ≡ this.r

pub from_bits : (this : Settings) (vss : Valss (fields the_type)) → AreAll (fields the_type) (the_type.to this) vss → FromBits this
from_bits this vss g = record {
  t = to_z-of_z {w = w32} (record { sfits = g.0.1 });
  skp = to_z-of_z {w = w32} (record { sfits = g.1.0.1 });
  skcor = to_z-of_z {w = w32} (record { sfits = g.1.1.0.1 });
  ski = to_z-of_z {w = w32} (record { sfits = g.1.1.1.0.1 });
  ckp = to_z-of_z {w = w32} (record { sfits = g.1.1.1.1.0.1 });
  ckcor = to_z-of_z {w = w32} (record { sfits = g.1.1.1.1.1.0.1 });
  cki = to_z-of_z {w = w32} (record { sfits = g.1.1.1.1.1.1.0.1 });
  v = to_z-of_z {w = w32} (record { sfits = g.1.1.1.1.1.1.1.0.1 });
  q = to_z-of_z {w = w32} (record { sfits = g.1.1.1.1.1.1.1.1.0.1 });
  kr = to_z-of_z {w = w32} (record { sfits = g.1.1.1.1.1.1.1.1.1.0.1 });
  kt = to_z-of_z {w = w32} (record { sfits = g.1.1.1.1.1.1.1.1.1.1.0.1 });
  kth = to_z-of_z {w = w32} (record { sfits = g.1.1.1.1.1.1.1.1.1.1.1.0.1 });
  kn = to_z-of_z {w = w32} (record { sfits = g.1.1.1.1.1.1.1.1.1.1.1.1.0.1 });
  f = to_z-of_z {w = w32} (record { sfits = g.1.1.1.1.1.1.1.1.1.1.1.1.1.0.1 });
  r = to_z-of_z {w = w32} (record { sfits = g.1.1.1.1.1.1.1.1.1.1.1.1.1.1.0.1 });
}
