-- Each reason has its own number: a number gives its reason back.
use Rattle.std.proofs.Common.{◌≡◌, refl}
use Rattle.fixed.specs.declared.refusal.Refusal.{Refusal}
use Rattle.fixed.specs.declared.refusal.Refusal.TheVariants.{
  Period,
  Gains,
  Untied,
  Limits,
  Rest,
  Sample,
  Tripped,
  Target,
  Rows,
  NotTripped,
  Broken,
  NoSheet,
  NoRoom,
  NoRow,
}
use Rattle.fixed.specs.Refusal.{number_of, reason}

pub reason_back : (r : Refusal) → reason (number_of r) ≡ r
reason_back Period = refl
reason_back Gains = refl
reason_back Untied = refl
reason_back Limits = refl
reason_back Rest = refl
reason_back Sample = refl
reason_back Tripped = refl
reason_back Target = refl
reason_back Rows = refl
reason_back NotTripped = refl
reason_back Broken = refl
reason_back NoSheet = refl
reason_back NoRoom = refl
reason_back NoRow = refl
