-- `stages::ramped_by` meets its contract.
-- Assumes nothing.
use mathlib.Core.Path.{◌∙◌, ap₂}
use lib.IntN.{ℤ}
use mir.Syntax.{w32}
use Rattle.fixed.proofs.Equal.{ap₃, ap₄}
use Rattle.shaft.specs.Shaft.{ramped_to, weakened}
use Rattle.fixed.proofs.Reading.{word, answer, sized, local, bound}
use Rattle.stages.specs.Step.{ramped_by}
use Rattle.drive_record.proofs.Ranges.{sound→}
use Rattle.stages.proofs.Sizes as size
use Rattle.drive_record.proofs.DriveFromBits.{from_bits}
use Rattle.stages.proofs.ramped_by.Goals as goal

pub returns : goal.returns
unfolding ramped_by
returns c =
    let b = from_bits c.args.d _ c.well_formed.0.1.1 in
    ap₄ (λ (t r q f : ℤ). record { target = t; reference = r; torque = q; flux = f }) b.command.target
    ((answer w32 c.ramped_to-reference.type_inv).is ∙ c.ramped_to-reference.ensures ∙ ap₃ ramped_to b.command.reference b.command.target b.settings.r)
    b.command.torque
    ((answer w32 c.weakened-flux.type_inv).is ∙ c.weakened-flux.ensures ∙ ap₂ weakened b.settings.f (word c.ranges.n).is)

pub ramped_to-reference-requires : goal.ramped_to-reference-requires
ramped_to-reference-requires c =
    let d = c.args.d in
    let h = sound→ d c.requires.0 in (
      bound (local w32 {x = d.command.reference} (size.reference_size d h) tt) tt,
      bound (local w32 {x = d.command.target} (size.target_size d h) tt) tt,
      bound (local w32 {x = d.settings.r} (size.r_size d h) tt) tt,
    )

pub weakened-flux-requires : goal.weakened-flux-requires
weakened-flux-requires c =
    let d = c.args.d in
    (bound (local w32 {x = d.settings.f} (size.f_size d (sound→ d c.requires.0)) tt) tt, bound (sized c.ranges.n c.requires.1) tt)
