-- The words that demand 3 is said in, as the rules name them.
use Rattle.std.specs.Prelude.{ℤ, ◌-ℤ◌}
use Rattle.sine.specs.Sine.{sine_at, cosine_at}
use Rattle.frames.specs.declared.Rotor.{Rotor}
use Rattle.drive_record.specs.declared.Drive.{Drive}
use Rattle.stages.specs.Step.{rules_1_and_2, currents, voltage_for}
use Rattle.drive.specs.Calls.{stepped}

-- the currents d and q, seen at the old angle
unfoldable pub seen : Drive → ℤ → ℤ → Rotor
seen d ia ib = currents ia ib (sine_at d.field.angle) (cosine_at d.field.angle)

-- the voltage that the current regulators issue
unfoldable pub issued : Drive → ℤ → ℤ → ℤ → Rotor
issued d ia ib count = (voltage_for (rules_1_and_2 d count) (seen d ia ib)).asked

-- flux reference − d, torque reference − q
unfoldable pub d_error : Drive → ℤ → ℤ → ℤ → ℤ
d_error d ia ib count = (rules_1_and_2 d count).command.flux -ℤ (seen d ia ib).d

unfoldable pub q_error : Drive → ℤ → ℤ → ℤ → ℤ
q_error d ia ib count = (rules_1_and_2 d count).command.torque -ℤ (seen d ia ib).q

-- the drive after the step
unfoldable pub next : Drive → ℤ → ℤ → ℤ → Drive
next d ia ib count = (stepped d ia ib count).drive

-- reference − n, of a tick
unfoldable pub speed_error : Drive → ℤ → ℤ → ℤ → ℤ
speed_error d ia ib count = (next d ia ib count).command.reference -ℤ (next d ia ib count).shaft.speed
