-- What owning a record tells of its lists: each ring has 128 places.
-- Assumes nothing.
use denote.RattleType.{Valss}
use denote.Struct.Struct.{AreAll}
use denote.Struct.Declared.{fields}
use Rattle.moments.specs.declared.Moments.{Moments}
use Rattle.moments.specs.Recordings.{Rings}
use Rattle.moments.specs.contracts.Moments.{the_type}

pub rings : (m : Moments) (vss : Valss (fields the_type)) → AreAll (fields the_type) (the_type.to m) vss → Rings m
rings m vss g =
    let p = g.1.1.1 in
    record {
      ia = g.0.1.0.1;
      ib = g.1.0.1.0.1;
      speed = g.1.1.0.1.0.1;
      a = p.0.1.0.1;
      b = p.1.0.1.0.1;
      c = p.1.1.0.1.0.1;
    }
