-- `stages::rules_6_to_9` meets its contract.
-- Assumes nothing.
use mathlib.Core.Path.{◌∙◌, ap, ap₂, sym, subst}
use Prim.Native.Nat.{◌≤◌}
use native.Mathlib.Nat.{le_trans}
use lib.Dec.{leb→le}
use lib.IntN.{ℤ, pos, nat_abs}
use mir.Syntax.{w32}
use Rattle.fixed.proofs.Equal.{ap₃}
use Rattle.fixed.proofs.Reading.{result, stored, bound}
use Rattle.frames.specs.declared.Rotor.{Rotor}
use Rattle.frames.specs.declared.Stator.{Stator}
use Rattle.frames.specs.Frames.{inverse_park}
use Rattle.frames.proofs.FrameLaws.{back_alpha_size, back_beta_size}
use Rattle.modulation.specs.declared.Pulses.{Pulses}
use Rattle.modulation.specs.Modulation.{modulated, Period}
use Rattle.drive_record.specs.declared.Drive.{Drive}
use Rattle.stages.specs.declared.Voltage.{Voltage}
use Rattle.stages.specs.Step.{voltage_for, with_field, outcome, rules_6_to_9, SineCosineSized}
use Rattle.drive_record.proofs.Ranges.{Sound, sound→}
use Rattle.stages.proofs.Sizes as size
use Rattle.stages.proofs.Kept.{asked_size}
use Rattle.drive_record.proofs.DriveFromBits.{from_bits}
use Rattle.stages.proofs.rules_6_to_9.Goals as goal

-- the voltage in the stator's frame
abbrev volts : Drive → Rotor → ℤ → ℤ → Stator
volts d i sin cos = inverse_park (voltage_for d i).asked sin cos

volts_size : (d : Drive) (i : Rotor) (sin cos : ℤ) → Sound d → SineCosineSized sin cos
    → (nat_abs (volts d i sin cos).alpha ≤ 8192) × (nat_abs (volts d i sin cos).beta ≤ 8192)
volts_size d i sin cos h k =
    let z = asked_size d i h in
    let v = (voltage_for d i).asked in
    (back_alpha_size 4096 4096 sin cos k.sin_size k.cos_size v z.0 z.1, back_beta_size 4096 4096 sin cos k.sin_size k.cos_size v z.0 z.1)

pub returns : goal.returns
unfolding rules_6_to_9 outcome with_field
returns c =
    let h = c.args.h in
    let z = volts_size c.args.d c.args.i h.sin h.cos (sound→ c.args.d c.requires.0.is_sound) c.requires.1 in
    let b = from_bits c.args.d _ c.well_formed.0.1.1 in
    let v = c.inverse_park-v.ensures ∙ ap (λ (u : Voltage). inverse_park u.asked h.sin h.cos) c.voltage_for-u.ensures in
    ap₃ (λ (d : Drive) (p : Pulses) (v : Stator). record { drive = d; number = pos 0; pulses = p; voltage = v })
    (c.with_field.ensures ∙ ap₂ (with_field c.args.d) c.field_after-f.ensures (ap (λ (u : Voltage). u.integrals) c.voltage_for-u.ensures))
    (c.modulate-pulses.ensures
    ∙ ap₃ modulated b.settings.t (stored w32 (result (ap (λ (s : Stator). s.alpha) v) z.0) tt).is
    (stored w32 (result (ap (λ (s : Stator). s.beta) v) z.1) tt).is)
    v

pub inverse_park-v-requires : goal.inverse_park-v-requires
inverse_park-v-requires c =
    let z = asked_size c.args.d c.args.i (sound→ c.args.d c.requires.0.is_sound) in
    rw c.voltage_for-u.ensures (record {
      a_size = le_trans z.0 (leb→le _ _ tt);
      b_size = le_trans z.1 (leb→le _ _ tt);
      m_size = c.requires.1.sin_size;
      n_size = c.requires.1.cos_size;
    })

pub modulate-pulses-requires : goal.modulate-pulses-requires
modulate-pulses-requires c =
    let h = c.args.h in
    let k = sound→ c.args.d c.requires.0.is_sound in
    let z = volts_size c.args.d c.args.i h.sin h.cos k c.requires.1 in
    let b = from_bits c.args.d _ c.well_formed.0.1.1 in
    let v = c.inverse_park-v.ensures ∙ ap (λ (u : Voltage). inverse_park u.asked h.sin h.cos) c.voltage_for-u.ensures in (
      subst Period (sym b.settings.t) (size.period c.args.d k),
      bound (stored w32 (result (ap (λ (s : Stator). s.alpha) v) z.0) tt) tt,
      bound (stored w32 (result (ap (λ (s : Stator). s.beta) v) z.1) tt) tt,
    )
