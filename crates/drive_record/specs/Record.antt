-- The drive record, and when it is broken (docs/RULES.md, "The drive record").
use Rattle.std.specs.Prelude.{Bool, not, ◌&&◌, ℕ, pos}
use Rattle.fixed.specs.Fixed.{within, inside}
use Rattle.shaft.specs.Shaft.{shaft_ok}
use Rattle.field.specs.Field.{field_ok}
use Rattle.settings.specs.declared.Settings.{Settings}
use Rattle.settings.specs.Settings.{accepted}
use Rattle.drive_record.specs.declared.Command.{Command}
use Rattle.drive_record.specs.declared.Integrals.{Integrals}
use Rattle.drive_record.specs.declared.Drive.{Drive}

-- the end of targets and references
abbrev pub target_end : ℕ
target_end = 8191

-- target and reference ±8191, torque reference ±Q, flux reference 0..F
unfoldable pub command_ok : Settings → Command → Bool
command_ok s c =
    inside (pos target_end) c.target
    && inside (pos target_end) c.reference
    && inside s.q c.torque
    && within (pos 0) s.f c.flux

-- integrals within their regulator's limits: ±Q for speed, ±V for d and q
unfoldable pub integrals_ok : Settings → Integrals → Bool
integrals_ok s x = inside s.q x.speed && inside s.v x.d && inside s.v x.q

-- every word in its range, but for the settings
unfoldable pub words_ok : Drive → Bool
words_ok d =
    shaft_ok d.shaft
    && command_ok d.settings d.command
    && field_ok d.field
    && integrals_ok d.settings d.integrals

-- and settings that would not be refused
unfoldable pub sound : Drive → Bool
sound d = accepted d.settings && words_ok d

unfoldable pub broken : Drive → Bool
broken d = not (sound d)
