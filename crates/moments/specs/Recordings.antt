-- What can have happened to a drive with its record: any calls in any order, accepted or refused; and the rows of it, with no ring.
use Rattle.std.specs.Prelude.{ℕ, zero, suc, ◌≡◌, cond, List, [], ◌∷◌, ◌++◌, ℤ, pos, length, Result, Ok, Err}
use Rattle.fixed.specs.Fixed.{equal}
use Rattle.fixed.specs.declared.refusal.Refusal.{Refusal}
use Rattle.settings.specs.declared.Settings.{Settings}
use Rattle.drive_record.specs.declared.Drive.{Drive}
use Rattle.drive.specs.Calls.{made, made_number, stepped, cleared}
use Rattle.moments.specs.declared.Row.{Row}
use Rattle.moments.specs.declared.Moments.{Moments}
use Rattle.moments.specs.Moments.{real_rows, row_at, row_of, recorded, emptied_by, emptied}

-- a recorded step, a recorded clear, a recorded start; and whatever else becomes of the drive, in which the record has no part: a target, a run, a step
-- that is not recorded
pub data Call : Type 0 where
  stepping : ℤ → ℤ → ℤ → Call
  clearing : Call
  starting : Settings → Call
  meanwhile : Drive → Call

-- ════ the drive, and the record beside it
abbrev pub Both : Type 0
Both = Drive × Moments

-- the drive that was made, or the drive as it was
abbrev pub made_or : Drive → Result Drive Refusal → Drive
made_or d (Ok fresh) = fresh
made_or d (Err why) = d

unfoldable pub after : Both → Call → Both
after s (stepping ia ib count) = ((recorded s.0 s.1 ia ib count).step.drive, (recorded s.0 s.1 ia ib count).moments)
after s clearing = ((emptied s.0 s.1).answer.drive, (emptied s.0 s.1).moments)
after s (starting settings) = (made_or s.0 (made settings), emptied_by s.1 (made_number (made settings)))
after s (meanwhile d) = (d, s.1)

unfoldable pub after_all : Both → List Call → Both
after_all s [] = s
after_all s (c ∷ cs) = after_all (after s c) cs

-- ════ the rows of the accepted steps, oldest first, with no bound; an accepted clear or start begins anew
unfoldable pub noted : Drive → List Row → Call → List Row
noted d rs (stepping ia ib count) =
    cond (equal (pos 0) (stepped d ia ib count).number) (rs ++ (row_of ia ib (stepped d ia ib count) ∷ [])) rs
noted d rs clearing = cond (equal (pos 0) (cleared d).number) [] rs
noted d rs (starting settings) = cond (equal (pos 0) (made_number (made settings))) [] rs
noted d rs (meanwhile e) = rs

-- the drive that a call leaves, with no record beside it
unfoldable pub moved : Drive → Call → Drive
moved d (stepping ia ib count) = (stepped d ia ib count).drive
moved d clearing = (cleared d).drive
moved d (starting settings) = made_or d (made settings)
moved d (meanwhile e) = e

unfoldable pub noted_all : Drive → List Row → List Call → List Row
noted_all d rs [] = rs
noted_all d rs (c ∷ cs) = noted_all (moved d c) (noted d rs c) cs

-- ════ what is read, oldest first
unfoldable pub read_from : Moments → ℕ → ℕ → List Row
read_from m i zero = []
read_from m i (suc n) = row_at m i ∷ read_from m (suc i) n

abbrev pub read_all : Moments → List Row
read_all m = read_from m 0 (real_rows m)

-- each ring has 128 places, as every record of the code has
pub record Rings (m : Moments) : Type 0 where
  pub ia : length m.ia ≡ 128
  pub ib : length m.ib ≡ 128
  pub speed : length m.speed ≡ 128
  pub a : length m.a ≡ 128
  pub b : length m.b ≡ 128
  pub c : length m.c ≡ 128
