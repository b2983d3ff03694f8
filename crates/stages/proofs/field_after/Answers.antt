-- `stages::field_after` meets its contract.
-- Assumes nothing.
use mir.Syntax.{w32}
use Rattle.fixed.proofs.Reading.{local, bound}
use Rattle.shaft.proofs.ShaftRanges.{speed_size}
use Rattle.field.proofs.FieldRanges.{fine_size, angle_size}
use Rattle.frames.proofs.RotorFromBits.{from_bits as rotor_told}
use Rattle.stages.specs.Step.{field_after}
use Rattle.drive_record.proofs.Ranges.{sound→}
use Rattle.stages.proofs.Sizes as size
use Rattle.drive_record.proofs.DriveFromBits.{from_bits}
use Rattle.stages.proofs.field_after.Goals as goal

pub returns : goal.returns
unfolding field_after
returns c =
    let b = from_bits c.args.d _ c.well_formed.0.1.1 in
    let r = rotor_told c.args.i _ c.well_formed.1.0.1.1 in
    simp (c.followed.ensures, b.settings.kr, b.settings.kt, b.settings.kth, b.shaft.speed, r.d, r.q)

pub followed-requires : goal.followed-requires
followed-requires c =
    let d = c.args.d in
    let i = c.args.i in
    let h = sound→ d c.requires.is_sound in
    record {
      kr_size = bound (local w32 {x = d.settings.kr} (size.kr_size d h) tt) tt;
      kt_size = bound (local w32 {x = d.settings.kt} (size.kt_size d h) tt) tt;
      kth_size = bound (local w32 {x = d.settings.kth} (size.kth_size d h) tt) tt;
      fine_size = fine_size d.field h.field;
      angle_size = angle_size d.field h.field;
      d_size = bound (local w32 {x = i.d} c.requires.d_size tt) tt;
      q_size = bound (local w32 {x = i.q} c.requires.q_size tt) tt;
      n_size = bound (local w32 {x = d.shaft.speed} (speed_size d.shaft h.shaft) tt) tt;
    }
