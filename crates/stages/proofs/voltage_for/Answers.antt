-- `stages::voltage_for` meets its contract.
-- Assumes nothing.
use mathlib.Core.Path.{◌∙◌, ap, ap₂}
use lib.IntN.{ℤ, ◌-ℤ◌}
use Rattle.fixed.proofs.Equal.{ap₄}
use Rattle.regulator.specs.declared.Regulated.{Regulated}
use Rattle.regulator.specs.Regulator.{regulated}
use Rattle.regulator.proofs.RegulatedFromBits.{from_bits as regulated_told}
use Rattle.frames.proofs.RotorFromBits.{from_bits as rotor_told}
use Rattle.stages.specs.Step.{current_regulated, d_regulated, q_regulated, voltage_of, voltage_for}
use Rattle.drive_record.proofs.Ranges.{sound→}
use Rattle.stages.proofs.Sizes as size
use Rattle.stages.proofs.Regulating.{error_sized, read_errors, read_sized, current_sized}
use Rattle.drive_record.proofs.DriveFromBits.{from_bits}
use Rattle.stages.proofs.voltage_for.Goals as goal

pub returns : goal.returns
unfolding voltage_for voltage_of d_regulated q_regulated current_regulated
returns c =
    let b = from_bits c.args.d _ c.well_formed.0.1.1 in
    let i = rotor_told c.args.i _ c.well_formed.1.0.1.1 in
    let g = c.current_gains-g.ensures in
    let u = c.steered-u.ensures ∙ ap₄ regulated b.integrals.d (ap₂ ◌-ℤ◌ b.command.flux i.d) g b.settings.v in
    let w = c.steered-w.ensures ∙ ap₄ regulated b.integrals.q (ap₂ ◌-ℤ◌ b.command.torque i.q) g b.settings.v in
    let at-d = regulated_told c.steered-u.result _ c.steered-u.type_inv.1.1 in
    let at-q = regulated_told c.steered-w.result _ c.steered-w.type_inv.1.1 in
    let out : Regulated → ℤ = λ r. r.out in
    let next : Regulated → ℤ = λ r. r.x in
    rw b.integrals.speed
    (ap₄ (λ (d q x y : ℤ). record { asked = record { d = d; q = q }; integrals = record { speed = c.args.d.integrals.speed; d = x; q = y } })
    (at-d.out ∙ ap out u) (at-q.out ∙ ap out w) (at-d.x ∙ ap next u) (at-q.x ∙ ap next w))

pub steered-u-requires : goal.steered-u-requires
steered-u-requires c =
    let d = c.args.d in
    let h = sound→ d c.requires.is_sound in
    let b = from_bits d _ c.well_formed.0.1.1 in
    let i = rotor_told c.args.i _ c.well_formed.1.0.1.1 in
    let e = error_sized d.integrals.d d.command.flux c.args.i.d (size.d_integral_size d h) (size.flux_reference_size d h) c.requires.d_size in (
      read_errors b.integrals.d b.command.flux i.d e,
      read_sized b.integrals.d (ap₂ ◌-ℤ◌ b.command.flux i.d) c.current_gains-g.ensures b.settings.v
          (current_sized d.settings _ _ _ h.settings e),
    )

pub steered-w-requires : goal.steered-w-requires
steered-w-requires c =
    let d = c.args.d in
    let h = sound→ d c.requires.is_sound in
    let b = from_bits d _ c.well_formed.0.1.1 in
    let i = rotor_told c.args.i _ c.well_formed.1.0.1.1 in
    let e = error_sized d.integrals.q d.command.torque c.args.i.q (size.q_integral_size d h) (size.torque_size d h) c.requires.q_size in (
      read_errors b.integrals.q b.command.torque i.q e,
      read_sized b.integrals.q (ap₂ ◌-ℤ◌ b.command.torque i.q) c.current_gains-g.ensures b.settings.v
          (current_sized d.settings _ _ _ h.settings e),
    )
