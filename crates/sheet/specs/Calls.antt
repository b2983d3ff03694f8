-- The sheet for C: the number, and the line, the settings or the length that comes with it.
use Rattle.std.specs.Prelude.{ℕ, ℤ, pos, Result, Ok, Err, []}
use Rattle.fixed.specs.Refusal.{number_of}
use Rattle.settings.specs.Words.{settings_of}
use Rattle.settings.specs.declared.Settings.{Settings}
use Rattle.sheet.specs.declared.Unread.{Unread}
use Rattle.sheet.specs.declared.Unwritten.{Unwritten}
use Rattle.sheet.specs.declared.Unread.TheVariants.{Refused, Faulty}
use Rattle.sheet.specs.declared.Unwritten.TheVariants.{Barred, Short}
use Rattle.sheet.specs.declared.Reading.{Reading}
use Rattle.sheet.specs.declared.Writing.{Writing}

abbrev read : ℤ → ℤ → Settings → Reading
read number line s = record { number = number; line = line; settings = s }

abbrev wrote : ℤ → ℤ → Writing
wrote number length = record { number = number; length = length }

-- zeros, which are refused with 1: so a number that nobody looked at starts no drive
unfoldable pub no_settings : Settings
no_settings = settings_of []

-- 0 and the settings; 1 to 5; 17 and the first faulty line
unfoldable pub reading_of : Result Settings Unread → Reading
reading_of (Ok s) = read (pos 0) (pos 0) s
reading_of (Err (Refused r)) = read (number_of r) (pos 0) no_settings
reading_of (Err (Faulty i)) = read (pos 17) (pos i) no_settings

-- 0 and the length; 1 to 5; 18
unfoldable pub writing_of : Result ℕ Unwritten → Writing
writing_of (Ok n) = wrote (pos 0) (pos n)
writing_of (Err (Barred r)) = wrote (number_of r) (pos 0)
writing_of (Err Short) = wrote (pos 18) (pos 0)
