-- No accepted call makes a broken record: a fresh drive is sound, and what a step, a trip or a target makes of a sound drive is sound.
-- Assumes nothing.
use mathlib.Core.Path.{◌≡◌, refl}
use mathlib.Core.Bool.{true}
use lib.IntN.{ℤ, pos}
use lib.Signed.{≤ℤ_refl}
use Rattle.fixed.specs.Fixed.{inside}
use Rattle.fixed.proofs.HeldLaws.{within_yes}
use Rattle.fixed.proofs.LadderLaws.{each}
use Rattle.fixed.proofs.Ranges.{Inside, in-lo, in-up, zero_inside}
use Rattle.shaft.proofs.ShaftRanges.{unmoved_in}
use Rattle.field.proofs.FieldRanges.{still_in}
use Rattle.settings.specs.declared.Settings.{Settings}
use Rattle.std.specs.Prelude.{Ok}
use Rattle.settings.specs.Settings.{accepted, checked}
use Rattle.settings.specs.Ranges as range
use Rattle.settings.proofs.Ranges.{accepted→, accepted←}
use Rattle.drive_record.specs.declared.Drive.{Drive}
use Rattle.drive_record.specs.Record.{target_end, sound}
use Rattle.drive_record.proofs.Ranges.{Sound, sound←, not_broken}
use Rattle.stages.specs.declared.Stepped.{Stepped}
use Rattle.stages.specs.Step.{advanced}
use Rattle.stages.proofs.Kept.{advanced_sound}
use Rattle.drive.specs.declared.Answered.{Answered}
use Rattle.drive.specs.Calls.{fresh, with_trip, refused, sound_table, stepped_sound, stepped}
use Rattle.drive.specs.Calls.{retargeted, with_target, answered, target_table, targeted, clear_table, cleared}
use Rattle.drive.proofs.CallLaws.{ready_accepted}

-- ════ a fresh drive
pub fresh_sound : (s : Settings) → accepted s ≡ true → Sound (fresh s)
unfolding fresh
fresh_sound s e =
    let i = accepted→ s e in
    let at-v = zero_inside s.v (in-lo range.v s.v i.v) in
    let at-q = zero_inside s.q (in-lo range.q s.q i.q) in
    record {
      settings = i;
      shaft = unmoved_in;
      command = record {
        target = refl;
        reference = refl;
        torque = at-q;
        flux = within_yes (pos 0) s.f s.f (in-up range.f s.f i.f) (≤ℤ_refl s.f);
      };
      field = still_in;
      integrals = record { speed = at-q; d = at-v; q = at-v };
    }

-- so is that of any settings which the check hands back
pub checked_sound : (s a : Settings) → checked s ≡ Ok a → sound (fresh a) ≡ true
checked_sound s a e = sound← (fresh a) (fresh_sound a (ready_accepted s a e))

-- ════ a trip and a target
pub trip_sound : (d : Drive) → Sound d → Sound (with_trip d)
unfolding with_trip
trip_sound d h =
    record { settings = h.settings; shaft = h.shaft; command = h.command; field = h.field; integrals = h.integrals }

pub target_sound : (d : Drive) (wanted : ℤ) → Sound d → Inside (pos target_end) wanted → Sound (with_target d wanted)
unfolding with_target retargeted
target_sound d wanted h w = record {
  settings = h.settings;
  shaft = h.shaft;
  command = record { target = w; reference = h.command.reference; torque = h.command.torque; flux = h.command.flux };
  field = h.field;
  integrals = h.integrals;
}

-- ════ every call, accepted or refused
pub step_is_sound : (d : Drive) (ia ib count : ℤ) → Sound d → stepped d ia ib count ≡ stepped_sound d ia ib count
unfolding stepped stepped_sound
step_is_sound d ia ib count h = rw ((not_broken d).1 h) refl

pub sound_stays : (d : Drive) (ia ib count : ℤ) → Sound d → Sound (stepped_sound d ia ib count).drive
unfolding stepped_sound refused
sound_stays d ia ib count h =
    each (λ (s : Stepped). Sound s.drive) (sound_table d ia ib count) (advanced d ia ib count)
    (λ t. h, λ t. (λ o. trip_sound d h, λ o. advanced_sound d ia ib count h o))

pub stepped_sound_lem : (d : Drive) (ia ib count : ℤ) → Sound d → Sound (stepped d ia ib count).drive
stepped_sound_lem d ia ib count h = rw (step_is_sound d ia ib count h) (sound_stays d ia ib count h)

pub targeted_sound : (d : Drive) (wanted : ℤ) → Sound d → Sound (targeted d wanted).drive
unfolding targeted inside
targeted_sound d wanted h =
    each (λ (a : Answered). Sound a.drive) (target_table d wanted) (answered (with_target d wanted) (pos 0))
    (λ b. h, λ b. (λ t. h, λ t. (λ w. h, λ w. target_sound d wanted h w)))

pub cleared_sound : (d : Drive) → Sound d → Sound (cleared d).drive
unfolding cleared
cleared_sound d h =
    each (λ (a : Answered). Sound a.drive) (clear_table d) (answered (fresh d.settings) (pos 0))
    (λ b. h, λ b. (λ t. h, λ t. fresh_sound d.settings (accepted← d.settings h.settings)))
