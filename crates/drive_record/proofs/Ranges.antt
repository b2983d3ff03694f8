-- A sound record as named ranges, which is what the stages of a step stand on: `sound d ≡ true` exactly when `Sound d`.
-- Assumes nothing.
use mathlib.Core.Path.{◌≡◌, refl, sym, ap}
use mathlib.Core.Bool.{Bool, true, false, not, ◌&&◌}
use mathlib.Core.Logic.{◌↔◌}
use lib.IntN.{pos}
use Rattle.fixed.specs.Fixed.{within, inside}
use Rattle.fixed.proofs.HeldLaws.{and_both}
use Rattle.fixed.proofs.Ranges.{Inside, two, three, four}
use Rattle.shaft.specs.Shaft.{shaft_ok}
use Rattle.shaft.proofs.ShaftRanges.{ShaftIn, shaft→, shaft←}
use Rattle.field.specs.Field.{field_ok}
use Rattle.field.proofs.FieldRanges.{FieldIn, field→, field←}
use Rattle.settings.specs.declared.Settings.{Settings}
use Rattle.settings.specs.Settings.{accepted}
use Rattle.settings.proofs.Ranges.{SettingsIn, accepted→, accepted←}
use Rattle.drive_record.specs.declared.Command.{Command}
use Rattle.drive_record.specs.declared.Integrals.{Integrals}
use Rattle.drive_record.specs.declared.Drive.{Drive}
use Rattle.drive_record.specs.Record.{target_end, command_ok, integrals_ok, words_ok, sound, broken}

pub record CommandIn (s : Settings) (c : Command) : Type 0 where
  pub target : Inside (pos target_end) c.target
  pub reference : Inside (pos target_end) c.reference
  pub torque : Inside s.q c.torque
  pub flux : within (pos 0) s.f c.flux ≡ true

pub record IntegralsIn (s : Settings) (x : Integrals) : Type 0 where
  pub speed : Inside s.q x.speed
  pub d : Inside s.v x.d
  pub q : Inside s.v x.q

pub record Sound (d : Drive) : Type 0 where
  pub settings : SettingsIn d.settings
  pub shaft : ShaftIn d.shaft
  pub command : CommandIn d.settings d.command
  pub field : FieldIn d.field
  pub integrals : IntegralsIn d.settings d.integrals

-- ════ the record
command→ : (s : Settings) (c : Command) → command_ok s c ≡ true → CommandIn s c
unfolding command_ok inside
command→ s c e =
    let h = four (inside (pos target_end) c.target) (inside (pos target_end) c.reference) (inside s.q c.torque) (within (pos 0) s.f c.flux) e in
    record { target = h.0; reference = h.1; torque = h.2; flux = h.3 }

integrals→ : (s : Settings) (x : Integrals) → integrals_ok s x ≡ true → IntegralsIn s x
unfolding integrals_ok inside
integrals→ s x e =
    let h = three (inside s.q x.speed) (inside s.v x.d) (inside s.v x.q) e in
    record { speed = h.0; d = h.1; q = h.2 }

pub words→ : (d : Drive) → accepted d.settings ≡ true → words_ok d ≡ true → Sound d
unfolding words_ok
words→ d a e =
    let h = four (shaft_ok d.shaft) (command_ok d.settings d.command) (field_ok d.field) (integrals_ok d.settings d.integrals) e in
    record {
      settings = accepted→ d.settings a;
      shaft = shaft→ d.shaft h.0;
      command = command→ d.settings d.command h.1;
      field = field→ d.field h.2;
      integrals = integrals→ d.settings d.integrals h.3;
    }

pub sound→ : (d : Drive) → sound d ≡ true → Sound d
unfolding sound
sound→ d e = let h = two (accepted d.settings) (words_ok d) e in words→ d h.0 h.1

pub sound_parts : (d : Drive) → accepted d.settings ≡ true → words_ok d ≡ true → sound d ≡ true
unfolding sound
sound_parts d a e = and_both a e

pub words_broken : (d : Drive) → words_ok d ≡ false → broken d ≡ true
unfolding broken sound
words_broken d e = rw e (by (accepted d.settings))
  where
    by : (b : Bool) → not (b && false) ≡ true
    by true = refl
    by false = refl

pub sound← : (d : Drive) → Sound d → sound d ≡ true
unfolding sound words_ok command_ok integrals_ok inside
sound← d i =
    and_both (accepted← d.settings i.settings)
    (and_both
    (and_both
    (and_both
    (shaft← d.shaft i.shaft)
    (and_both (and_both (and_both i.command.target i.command.reference) i.command.torque) i.command.flux))
    (field← d.field i.field))
    (and_both (and_both i.integrals.speed i.integrals.d) i.integrals.q))

-- so a record is broken exactly when it is not sound
pub not_broken : (d : Drive) → (broken d ≡ false) ↔ Sound d
unfolding broken
not_broken d = (λ e. sound→ d (flip (sound d) e), λ h. ap not (sound← d h))
  where
    flip : (b : Bool) → not b ≡ false → b ≡ true
    flip true e = refl
    flip false e = sym e
