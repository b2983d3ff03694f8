-- What a step makes of a sound drive is sound: a law of the crate that owns it for each part.
-- Assumes nothing.
use mathlib.Core.Path.{◌≡◌}
use mathlib.Core.Bool.{true}
use Prim.Native.Nat.{◌≤◌}
use native.Mathlib.Nat.{le_trans}
use lib.Dec.{leb→le}
use lib.IntN.{ℤ, pos, nat_abs, ◌-ℤ◌}
use Rattle.fixed.proofs.Choice.{choose}
use Rattle.fixed.proofs.HeldLaws.{within_abs}
use Rattle.regulator.specs.declared.Gains.{Gains}
use Rattle.regulator.specs.Regulator.{regulated, Lawful}
use Rattle.regulator.proofs.Limits.{out_inside, next_inside}
use Rattle.sine.specs.Sine.{sine_at, cosine_at}
use Rattle.sine.proofs.Rule.{sine_size, cosine_size}
use Rattle.frames.specs.declared.Rotor.{Rotor}
use Rattle.frames.specs.Frames.{rotor_end}
use Rattle.frames.proofs.FrameLaws.{rotor_size}
use Rattle.field.proofs.FieldRanges.{FieldIn, followed_in}
use Rattle.shaft.specs.declared.Shaft.{Shaft}
use Rattle.shaft.specs.Shaft.{thirtieth, Count}
use Rattle.shaft.proofs.ShaftRanges.{ShaftIn, counted_in, measured_in, ramped_in, weakened_in}
use Rattle.settings.specs.declared.Settings.{Settings}
use Rattle.drive_record.specs.declared.Drive.{Drive}
use Rattle.drive_record.specs.Record.{target_end}
use Rattle.stages.specs.Step.{speed_gains, current_gains, speed_regulated, current_regulated, ramped_by, with_torque, with_speed, with_shaft, with_command}
use Rattle.stages.specs.Step.{commanded, rules_1_and_2, currents, field_after, d_regulated, q_regulated, voltage_of, voltage_for}
use Rattle.stages.specs.Step.{with_field, outcome, rules_6_to_9, rules_3_to_9, advanced, sample_ok, Currents, SineCosineSized}
use Rattle.fixed.proofs.Ranges.{Inside, in-lo, in-hi, in-up, inside_size}
use Rattle.settings.specs.Ranges as range
use Rattle.settings.proofs.Ranges.{GainsIn, SettingsIn}
use Rattle.drive_record.proofs.Ranges.{Sound}
use Rattle.stages.proofs.Sizes as size

-- ════ the regulators: output and integral within the limits
lawful : (g : Gains) → GainsIn g.kp g.kcor g.ki → Lawful g
lawful g i = record {
  kp_lo = in-lo range.kp g.kp i.kp_in;
  kcor_lo = in-lo range.kcor g.kcor i.kcor_in;
  kcor_hi = in-hi range.kcor g.kcor i.kcor_in;
  tied = i.is_tied;
}

pub speed_lawful : (s : Settings) → SettingsIn s → Lawful (speed_gains s)
unfolding speed_gains
speed_lawful s i = lawful (speed_gains s) i.speed

pub current_lawful : (s : Settings) → SettingsIn s → Lawful (current_gains s)
unfolding current_gains
current_lawful s i = lawful (current_gains s) i.current

-- ════ rules 1 and 2
ramped_inside : (d : Drive) (n : ℤ) → Sound d → Inside (pos target_end) (ramped_by d n).reference
unfolding ramped_by
ramped_inside d n h =
    ramped_in target_end d.command.reference d.command.target d.settings.r (in-up range.r d.settings.r h.settings.r)
    h.command.reference h.command.target

pub ramped_size : (d : Drive) (n : ℤ) → Sound d → nat_abs (ramped_by d n).reference ≤ target_end
ramped_size d n h = within_abs target_end (ramped_by d n).reference (ramped_inside d n h)

commanded_sound : (d : Drive) (s : Shaft) → Sound d → ShaftIn s → Sound (commanded d s)
unfolding commanded with_command ramped_by with_torque with_speed speed_regulated
commanded_sound d s h i =
    let set = d.settings in
    let law = speed_lawful set h.settings in
    record {
      settings = h.settings;
      shaft = i;
      command = record {
        target = h.command.target;
        reference = ramped_inside d s.speed h;
        torque = out_inside d.integrals.speed _ (speed_gains set) set.q law (size.q_lo d h);
        flux = weakened_in set.f s.speed (size.f_lo d h);
      };
      field = h.field;
      integrals = record {
        speed = next_inside d.integrals.speed _ (speed_gains set) set.q law (size.q_lo d h) h.integrals.speed;
        d = h.integrals.d;
        q = h.integrals.q;
      };
    }

with_shaft_sound : (d : Drive) (s : Shaft) → Sound d → ShaftIn s → Sound (with_shaft d s)
unfolding with_shaft
with_shaft_sound d s h i =
    record { settings = h.settings; shaft = i; command = h.command; field = h.field; integrals = h.integrals }

pub rules_1_and_2_sound : (d : Drive) (count : ℤ) → Sound d → Count count → Sound (rules_1_and_2 d count)
unfolding rules_1_and_2
rules_1_and_2_sound d count h c =
    choose Sound (thirtieth d.shaft) _ _
    (λ e. commanded_sound d _ h (measured_in d.shaft count d.settings.kn c))
    (λ e. with_shaft_sound d _ h (counted_in d.shaft count h.shaft c e))

-- ════ rules 3 to 5
pub currents_size : (ia ib sin cos : ℤ) → Currents ia ib → SineCosineSized sin cos
    → (nat_abs (currents ia ib sin cos).d ≤ rotor_end) × (nat_abs (currents ia ib sin cos).q ≤ rotor_end)
unfolding currents
currents_size ia ib sin cos c t = rotor_size ia ib sin cos c.ia_size c.ib_size c.both_size t.sin_size t.cos_size

-- ════ rules 6 to 9
module _ (d : Drive) (i : Rotor) (h : Sound d) (id : nat_abs i.d ≤ rotor_end) where
  field_in : FieldIn (field_after d i)
  unfolding field_after
  field_in =
      let kr = d.settings.kr in
      followed_in kr _ _ d.field i.d _ _ (in-up range.kr kr h.settings.kr)
      (in-hi range.kr kr h.settings.kr) h.field (le_trans id (leb→le _ _ tt))

  pub field_sound : Sound (with_field d (field_after d i) (voltage_for d i).integrals)
  unfolding with_field voltage_for voltage_of d_regulated q_regulated current_regulated
  field_sound =
      let law = current_lawful d.settings h.settings in
      record {
        settings = h.settings;
        shaft = h.shaft;
        command = h.command;
        field = field_in;
        integrals = record {
          speed = h.integrals.speed;
          d = next_inside d.integrals.d _ (current_gains d.settings) d.settings.v law (size.v_lo d h) h.integrals.d;
          q = next_inside d.integrals.q _ (current_gains d.settings) d.settings.v law (size.v_lo d h) h.integrals.q;
        };
      }

-- the voltage asked is within ±V
pub asked_size : (d : Drive) (i : Rotor) → Sound d → (nat_abs (voltage_for d i).asked.d ≤ 4096) × (nat_abs (voltage_for d i).asked.q ≤ 4096)
unfolding voltage_for voltage_of d_regulated q_regulated current_regulated
asked_size d i h =
    let s = d.settings in
    let law = current_lawful s h.settings in
    let out : (x e : ℤ) → nat_abs (regulated x e (current_gains s) s.v).out ≤ 4096 = λ x e.
    inside_size s.v (regulated x e (current_gains s) s.v).out 4096 (size.v_size d h) (out_inside x e (current_gains s) s.v law (size.v_lo d h)) in
    (out d.integrals.d (d.command.flux -ℤ i.d), out d.integrals.q (d.command.torque -ℤ i.q))

pub sine_cosine_sized : (a : ℤ) → SineCosineSized (sine_at a) (cosine_at a)
sine_cosine_sized a = record { sin_size = sine_size a; cos_size = cosine_size a }

pub rules_3_to_9_sound : (d : Drive) (ia ib sin cos : ℤ) → Sound d → Currents ia ib → SineCosineSized sin cos → Sound (rules_3_to_9 d ia ib sin cos).drive
unfolding rules_3_to_9 rules_6_to_9 outcome
rules_3_to_9_sound d ia ib sin cos h c t = let z = currents_size ia ib sin cos c t in field_sound d (currents ia ib sin cos) h z.0

pub advanced_sound : (d : Drive) (ia ib count : ℤ) → Sound d → sample_ok ia ib count ≡ true → Sound (advanced d ia ib count).drive
unfolding advanced
advanced_sound d ia ib count h e =
    let a = d.field.angle in
    rules_3_to_9_sound (rules_1_and_2 d count) ia ib (sine_at a) (cosine_at a)
    (rules_1_and_2_sound d count h (size.samples→ ia ib count e).3) (size.samples ia ib count e) (sine_cosine_sized a)
