-- One accepted step (docs/RULES.md, "One accepted step, in order"): rules 1 to 9, each from the crate that owns it.
use Rattle.std.specs.Prelude.{ℕ, ◌+◌, ◌≤◌, ◌≡◌, Bool, true, cond, ◌&&◌, ℤ, pos, nat_abs, ◌+ℤ◌, ◌-ℤ◌}
use Rattle.fixed.specs.Fixed.{inside, is_in}
use Rattle.sine.specs.Sine.{sine_at, cosine_at}
use Rattle.regulator.specs.declared.Gains.{Gains}
use Rattle.regulator.specs.declared.Regulated.{Regulated}
use Rattle.regulator.specs.Regulator.{regulated, widest}
use Rattle.frames.specs.declared.Stator.{Stator}
use Rattle.frames.specs.declared.Rotor.{Rotor}
use Rattle.frames.specs.Frames.{clarke, park, inverse_park, sample_end, rotor_end}
use Rattle.field.specs.declared.Field.{Field}
use Rattle.field.specs.Field.{followed}
use Rattle.shaft.specs.declared.Shaft.{Shaft}
use Rattle.shaft.specs.Shaft.{counts, counted, thirtieth, measured, ramped_to, weakened}
use Rattle.modulation.specs.Modulation.{modulated}
use Rattle.settings.specs.declared.Settings.{Settings}
use Rattle.drive_record.specs.declared.Command.{Command}
use Rattle.drive_record.specs.declared.Integrals.{Integrals}
use Rattle.drive_record.specs.declared.Drive.{Drive}
use Rattle.stages.specs.declared.Voltage.{Voltage}
use Rattle.stages.specs.declared.Stepped.{Stepped}
use Rattle.drive_record.specs.Record.{sound}

-- ════ the regulators: two gain sets, speed with limits ±Q, and current, which d and q share, with limits ±V
unfoldable pub speed_gains : Settings → Gains
speed_gains s = record { kp = s.skp; kcor = s.skcor; ki = s.ski }

unfoldable pub current_gains : Settings → Gains
current_gains s = record { kp = s.ckp; kcor = s.ckcor; ki = s.cki }

-- a regulator from its integral x; the error is what is wanted less what is
abbrev pub steered : ℤ → ℤ → ℤ → Gains → ℤ → Regulated
steered x wanted actual g limit = regulated x (wanted -ℤ actual) g limit

unfoldable pub speed_regulated : Settings → ℤ → ℤ → ℤ → Regulated
speed_regulated s x wanted actual = steered x wanted actual (speed_gains s) s.q

unfoldable pub current_regulated : Settings → ℤ → ℤ → ℤ → Regulated
current_regulated s x wanted actual = steered x wanted actual (current_gains s) s.v

-- ════ rules 1 and 2
-- a tick, on the speed n: the reference becomes the target or moves R towards it; the flux reference is weakened
unfoldable pub ramped_by : Drive → ℤ → Command
ramped_by d n = record {
  target = d.command.target;
  reference = ramped_to d.command.reference d.command.target d.settings.r;
  torque = d.command.torque;
  flux = weakened d.settings.f n;
}

-- the speed regulator gives the torque reference
unfoldable pub with_torque : Command → ℤ → Command
with_torque c torque = record { target = c.target; reference = c.reference; torque = torque; flux = c.flux }

unfoldable pub with_speed : Integrals → ℤ → Integrals
with_speed x speed = record { speed = speed; d = x.d; q = x.q }

-- the drive with its shaft as s, at the same references, and with command c and speed regulator u
unfoldable pub with_shaft : Drive → Shaft → Drive
with_shaft d s = record {
  settings = d.settings;
  shaft = s;
  command = d.command;
  field = d.field;
  integrals = d.integrals;
  tripped = d.tripped;
}

unfoldable pub with_command : Drive → Shaft → Command → Regulated → Drive
with_command d s c u = record {
  settings = d.settings;
  shaft = s;
  command = with_torque c u.out;
  field = d.field;
  integrals = with_speed d.integrals u.x;
  tripped = d.tripped;
}

-- rule 2: s is the shaft with its speed measured; the error is reference − n
unfoldable pub commanded : Drive → Shaft → Drive
commanded d s =
    with_command d s (ramped_by d s.speed)
    (speed_regulated d.settings d.integrals.speed (ramped_by d s.speed).reference s.speed)

-- rules 1 and 2: every step counts; a tick measures the speed and commands
unfoldable pub rules_1_and_2 : Drive → ℤ → Drive
rules_1_and_2 d count =
    cond (thirtieth d.shaft)
    (commanded d (measured (counted d.shaft count) d.settings.kn))
    (with_shaft d (counted d.shaft count))

-- ════ rules 3 to 5: the currents in the rotor's frame
unfoldable pub currents : ℤ → ℤ → ℤ → ℤ → Rotor
currents ia ib sin cos = park (clarke ia ib) sin cos

-- ════ rule 6: flux and angle after the step, for the currents i
unfoldable pub field_after : Drive → Rotor → Field
field_after d i =
    followed d.settings.kr d.settings.kt d.settings.kth d.field i.d i.q d.shaft.speed

-- ════ rule 7: for d the error is flux reference − d, for q it is torque reference − q
unfoldable pub d_regulated : Drive → Rotor → Regulated
d_regulated d i = current_regulated d.settings d.integrals.d d.command.flux i.d

unfoldable pub q_regulated : Drive → Rotor → Regulated
q_regulated d i = current_regulated d.settings d.integrals.q d.command.torque i.q

-- the voltage vd, vq that they ask for, and the integrals after it
unfoldable pub voltage_of : Integrals → Regulated → Regulated → Voltage
voltage_of x u w = record {
  asked = record { d = u.out; q = w.out };
  integrals = record { speed = x.speed; d = u.x; q = w.x };
}

unfoldable pub voltage_for : Drive → Rotor → Voltage
voltage_for d i = voltage_of d.integrals (d_regulated d i) (q_regulated d i)

-- ════ rules 8 and 9: the voltage goes back to the stator's frame, v, and is modulated; the number is 0
unfoldable pub with_field : Drive → Field → Integrals → Drive
with_field d f x = record {
  settings = d.settings;
  shaft = d.shaft;
  command = d.command;
  field = f;
  integrals = x;
  tripped = d.tripped;
}

unfoldable pub outcome : Drive → Stator → Stepped
outcome d v = record { drive = d; number = pos 0; pulses = modulated d.settings.t v.alpha v.beta; voltage = v }

-- rules 6 to 9, for the currents i and the old angle's sine and cosine
unfoldable pub rules_6_to_9 : Drive → Rotor → ℤ → ℤ → Stepped
rules_6_to_9 d i sin cos =
    outcome (with_field d (field_after d i) (voltage_for d i).integrals) (inverse_park (voltage_for d i).asked sin cos)

-- rules 3 to 9
unfoldable pub rules_3_to_9 : Drive → ℤ → ℤ → ℤ → ℤ → Stepped
rules_3_to_9 d ia ib sin cos = rules_6_to_9 d (currents ia ib sin cos) sin cos

-- rules 1 to 9
unfoldable pub advanced : Drive → ℤ → ℤ → ℤ → Stepped
advanced d ia ib count = rules_3_to_9 (rules_1_and_2 d count) ia ib (sine_at d.field.angle) (cosine_at d.field.angle)

-- ════ the samples that a step takes
-- ia, ib and ia + ib within ±8191, count within 0..65535
unfoldable pub sample_ok : ℤ → ℤ → ℤ → Bool
sample_ok ia ib count =
    inside (pos sample_end) ia && inside (pos sample_end) ib && inside (pos sample_end) (ia +ℤ ib) && is_in counts count

-- ════ what the code asks of its numbers
abbrev pub error_size : ℕ
error_size = widest + rotor_end

pub record ErrorSized (x wanted actual : ℤ) : Type 0 where
  pub x_size : nat_abs x ≤ widest
  pub wanted_size : nat_abs wanted ≤ widest
  pub actual_size : nat_abs actual ≤ rotor_end

pub record Currents (ia ib : ℤ) : Type 0 where
  pub ia_size : nat_abs ia ≤ sample_end
  pub ib_size : nat_abs ib ≤ sample_end
  pub both_size : nat_abs (ia +ℤ ib) ≤ sample_end

-- a sound drive, and currents that are a rotor's
pub record SoundWithCurrents (d : Drive) (i : Rotor) : Type 0 where
  pub is_sound : sound d ≡ true
  pub d_size : nat_abs i.d ≤ rotor_end
  pub q_size : nat_abs i.q ≤ rotor_end

pub record SineCosineSized (sin cos : ℤ) : Type 0 where
  pub sin_size : nat_abs sin ≤ 4096
  pub cos_size : nat_abs cos ≤ 4096
