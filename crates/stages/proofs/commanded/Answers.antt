-- `stages::commanded` meets its contract.
-- Assumes nothing.
use mathlib.Core.Path.{◌∙◌, ap, ap₂}
use mir.Syntax.{w32}
use native.Mathlib.Nat.{le_trans}
use lib.Dec.{leb→le}
use lib.IntN.{◌-ℤ◌}
use Rattle.fixed.proofs.Equal.{ap₄}
use Rattle.frames.specs.Frames.{rotor_end}
use Rattle.regulator.specs.Regulator.{regulated}
use Rattle.fixed.proofs.Reading.{local, stored, result}
use Rattle.drive_record.specs.declared.Command.{Command}
use Rattle.stages.specs.Step.{ramped_by, speed_regulated, with_command, commanded}
use Rattle.drive_record.proofs.Ranges.{sound→}
use Rattle.stages.proofs.Sizes as size
use Rattle.stages.proofs.Kept.{ramped_size}
use Rattle.stages.proofs.Regulating.{error_sized, read_errors, read_sized, speed_sized}
use Rattle.drive_record.proofs.DriveFromBits.{from_bits}
use Rattle.stages.proofs.commanded.Goals as goal
use Rattle.shaft.specs.Shaft.{fastest}

pub returns : goal.returns
unfolding commanded speed_regulated
returns c =
    let b = from_bits c.args.d _ c.well_formed.0.1.1 in
    let h = sound→ c.args.d c.requires.0 in
    let speed = local w32 {x = c.args.s.speed} c.requires.1 tt in
    let ramped = c.ramped_by-c.ensures ∙ ap (ramped_by c.args.d) speed.is in
    let reference = stored w32 (result (ap (λ (x : Command). x.reference) ramped) (ramped_size c.args.d c.args.s.speed h)) tt in
    c.with_command.ensures
    ∙ ap₂ (with_command c.args.d c.args.s) ramped
    (c.steered-u.ensures ∙ ap₄ regulated b.integrals.speed (ap₂ ◌-ℤ◌ reference.is speed.is) c.speed_gains-g.ensures b.settings.q)

pub steered-u-requires : goal.steered-u-requires
steered-u-requires c =
    let d = c.args.d in
    let h = sound→ d c.requires.0 in
    let b = from_bits d _ c.well_formed.0.1.1 in
    let speed = local w32 {x = c.args.s.speed} c.requires.1 tt in
    let ramped = c.ramped_by-c.ensures ∙ ap (ramped_by d) speed.is in
    let reference = stored w32 (result (ap (λ (x : Command). x.reference) ramped) (ramped_size d c.args.s.speed h)) tt in
    let e = error_sized d.integrals.speed (ramped_by d c.args.s.speed).reference
    c.args.s.speed (size.speed_integral_size d h) (ramped_size d c.args.s.speed h) (le_trans c.requires.1 (leb→le fastest rotor_end tt)) in (
      read_errors b.integrals.speed reference.is speed.is e,
      read_sized b.integrals.speed (ap₂ ◌-ℤ◌ reference.is speed.is) c.speed_gains-g.ensures b.settings.q
          (speed_sized d.settings _ _ _ h.settings e),
    )
