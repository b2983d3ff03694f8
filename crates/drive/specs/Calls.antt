-- The public calls, each an equation for every record and every number (docs/RULES.md, "Numbers handed back"). A call is its table, the rows in their
-- order of precedence, each with test, number and effect; and what is answered where none applies, which has number 0. A new number is a new row.
use Rattle.std.specs.Prelude.{true, false, List, [], ◌∷◌, ℤ, pos, Result, Ok}
use Rattle.shaft.specs.Shaft.{unmoved}
use Rattle.field.specs.Field.{still}
use Rattle.fixed.specs.Fixed.{inside}
use Rattle.fixed.specs.Ladder.{Rung, when, unless, answer_of, answered_by}
use Rattle.settings.specs.declared.Settings.{Settings}
use Rattle.drive_record.specs.declared.Command.{Command}
use Rattle.drive_record.specs.declared.Drive.{Drive}
use Rattle.fixed.specs.declared.refusal.Refusal.{Refusal}
use Rattle.fixed.specs.Refusal.{refuse, number_in}
use Rattle.stages.specs.declared.Stepped.{Stepped}
use Rattle.drive.specs.declared.Answered.{Answered}
use Rattle.settings.specs.Settings.{refusals}
use Rattle.drive_record.specs.Record.{target_end, broken}
use Rattle.stages.specs.Step.{sample_ok, advanced}

-- ════ settings: a fresh drive, or a number
-- the column "Fresh" of the record: no count seen, not tripped, the flux reference F, every other word 0
unfoldable pub fresh : Settings → Drive
fresh s = record {
  settings = s;
  shaft = unmoved;
  command = record { target = pos 0; reference = pos 0; torque = pos 0; flux = s.f };
  field = still;
  integrals = record { speed = pos 0; d = pos 0; q = pos 0 };
  tripped = false;
}

-- either a drive or a number, never both
abbrev pub make_table : Settings → List (Rung (Result Drive Refusal))
make_table s = answered_by refuse (refusals s)

unfoldable pub made : Settings → Result Drive Refusal
made s = answer_of (make_table s) (Ok (fresh s))

-- the number of each case
abbrev pub made_number : Result Drive Refusal → ℤ
made_number r = number_in r

-- ════ a step
-- the record, tripped, and nothing else of it changed
unfoldable pub with_trip : Drive → Drive
with_trip d = record {
  settings = d.settings;
  shaft = d.shaft;
  command = d.command;
  field = d.field;
  integrals = d.integrals;
  tripped = true;
}

-- a refused step: the drive, three equal compares t, a number, not clipped, no voltage
unfoldable pub refused : Drive → ℤ → ℤ → Stepped
refused d t number = record {
  drive = d;
  number = number;
  pulses = record { a = t; b = t; c = t; clipped = false };
  voltage = record { alpha = pos 0; beta = pos 0 };
}

-- on a record that is not broken, T, T, T: with 7 the record as it was, with 6 the record tripped
abbrev pub sound_table : Drive → ℤ → ℤ → ℤ → List (Rung Stepped)
sound_table d ia ib count =
    when d.tripped 7 (refused d d.settings.t)
    ∷ unless (sample_ok ia ib count) 6 (refused (with_trip d) d.settings.t)
    ∷ []

unfoldable pub stepped_sound : Drive → ℤ → ℤ → ℤ → Stepped
stepped_sound d ia ib count = answer_of (sound_table d ia ib count) (advanced d ia ib count)

-- 14 before every other number: the record as it was, and 0, 0, 0
abbrev pub step_table : Drive → ℤ → ℤ → ℤ → List (Rung Stepped)
step_table d ia ib count = when (broken d) 14 (refused d (pos 0)) ∷ sound_table d ia ib count

unfoldable pub stepped : Drive → ℤ → ℤ → ℤ → Stepped
stepped d ia ib count = answer_of (step_table d ia ib count) (advanced d ia ib count)

-- ════ a target
-- an accepted target replaces the target and nothing else
unfoldable pub retargeted : Command → ℤ → Command
retargeted c wanted = record { target = wanted; reference = c.reference; torque = c.torque; flux = c.flux }

unfoldable pub with_target : Drive → ℤ → Drive
with_target d wanted = record {
  settings = d.settings;
  shaft = d.shaft;
  command = retargeted d.command wanted;
  field = d.field;
  integrals = d.integrals;
  tripped = d.tripped;
}

-- the drive and a number
abbrev pub answered : Drive → ℤ → Answered
answered d number = record { drive = d; number = number }

-- refused, the record as it was
abbrev pub target_table : Drive → ℤ → List (Rung Answered)
target_table d wanted = when (broken d) 14 (answered d) ∷ when d.tripped 7 (answered d) ∷ unless (inside (pos target_end) wanted) 8 (answered d) ∷ []

unfoldable pub targeted : Drive → ℤ → Answered
targeted d wanted = answer_of (target_table d wanted) (answered (with_target d wanted) (pos 0))

-- ════ clear
-- refused, the record as it was; else fresh again, its settings kept
abbrev pub clear_table : Drive → List (Rung Answered)
clear_table d = when (broken d) 14 (answered d) ∷ unless d.tripped 10 (answered d) ∷ []

unfoldable pub cleared : Drive → Answered
cleared d = answer_of (clear_table d) (answered (fresh d.settings) (pos 0))
