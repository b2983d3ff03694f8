-- What each call on a record in place hands back, and the record that it leaves, beside `drive`'s definitions.
use Rattle.std.specs.Prelude.{Result, Ok, Err}
use Rattle.fixed.specs.declared.refusal.Refusal.{Refusal}
use Rattle.drive_record.specs.declared.Drive.{Drive}
use Rattle.stages.specs.declared.Stepped.{Stepped}
use Rattle.interrupt.specs.declared.Output.{Output}

-- all that a step answers but the record
abbrev pub output_of : Stepped → Output
output_of s = record {
  a = s.pulses.a;
  b = s.pulses.b;
  c = s.pulses.c;
  number = s.number;
  clipped = s.pulses.clipped;
  alpha = s.voltage.alpha;
  beta = s.voltage.beta;
}

-- what stands in the place of d: the drive that was made, or d as it was
abbrev pub drive_or : Drive → Result Drive Refusal → Drive
drive_or d (Ok fresh) = fresh
drive_or d (Err why) = d
