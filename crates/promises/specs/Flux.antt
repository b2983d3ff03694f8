-- The flux, of every accepted step and row and over any calls: it goes to the current on the d axis where that is held, and no rounding makes it rest further
-- away than d − 1. The same of numbers alone is field/specs/Promised.
use Rattle.std.specs.Prelude.{◌≡◌, true, false, List, [], ◌∷◌, ◌↔◌, ℕ, zero, suc, ◌+◌, ◌*◌, ◌≤◌, ◌<◌, ℤ, pos, negsuc, nat_abs, ◌-ℤ◌, ◌*ℤ◌, length, get_or}
use Rattle.fixed.specs.Fixed.{Between}
use Rattle.field.specs.Field.{flux_of}
use Rattle.field.specs.Promised.{There, held_for}
use Rattle.settings.specs.BenchSettings.{bench_settings}
use Rattle.drive_record.specs.declared.Drive.{Drive}
use Rattle.drive_record.specs.Record.{broken}
use Rattle.drive.specs.Calls.{fresh, stepped}
use Rattle.rows.specs.Rows.{ran_of, rows_in, rows_fit}
use Rattle.promises.specs.Histories.{Call, stepping, aiming, clearing, running, after_call, after_calls, row_at, steps_of, NoClear}
use Rattle.promises.specs.Words.{seen, next}

-- ════ an accepted step that sees the current d: fine ends between where it was and 4096·d; where it rests, the flux is d or d − 1; and so it stays
pub record FluxFollows (d : Drive) (ia ib count : ℤ) : Type 0 where
  pub between : Between d.field.fine (next d ia ib count).field.fine (pos 4096 *ℤ (seen d ia ib).d)
  pub rests : (next d ia ib count).field.fine ≡ d.field.fine → There (seen d ia ib).d d.field.fine
  pub stays : There (seen d ia ib).d d.field.fine → There (seen d ia ib).d (next d ia ib count).field.fine

-- ════ the current is held at c: every accepted step sees it, also every accepted row of a run
abbrev pub RowSees : ℤ → Drive → List ℤ → ℕ → Type 0
RowSees c d samples i = (row_at d samples i).number ≡ pos 0
    → (seen (ran_of d samples i).drive (get_or samples (3 * i) (pos 0)) (get_or samples (3 * i + 1) (pos 0))).d ≡ c

unfoldable pub Sees : ℤ → Drive → Call → Type 0
Sees c d (stepping ia ib count) = (stepped d ia ib count).number ≡ pos 0 → (seen d ia ib).d ≡ c
Sees c d (aiming wanted) = Unit
Sees c d clearing = Unit
Sees c d (running samples out) = rows_fit (length samples) (length out) ≡ true → (i : ℕ) → i < rows_in samples → RowSees c d samples i

unfoldable pub HeldAt : ℤ → Drive → List Call → Type 0
HeldAt c d [] = Unit
HeldAt c d (x ∷ cs) = Sees c d x × HeldAt c (after_call d x) cs

-- from any record that is not broken, through any calls without an accepted clear: the accepted steps are steps of the flux model with that current, so
-- that the flux is c or c − 1 once Kr times their number is |4096·c − fine|
pub record Goes (c : ℤ) (d : Drive) (cs : List Call) : Type 0 where
  pub fine : (after_calls d cs).field.fine ≡ held_for (steps_of d cs) d.settings.kr d.field.fine c
  pub arrives : nat_abs (pos 4096 *ℤ c -ℤ d.field.fine) ≤ nat_abs d.settings.kr * steps_of d cs → There c (after_calls d cs).field.fine

abbrev pub FluxArrives : Type 0
FluxArrives = (c : ℤ) (d : Drive) (cs : List Call) → broken d ≡ false → NoClear d cs → HeldAt c d cs → Goes c d cs

-- ════ the bench drive, from fresh: with ia 2458 and ib −1229 sampled and the count at 0, step after step, the flux is 2457 exactly from step 423 on
unfoldable pub magnetised : ℕ → List Call
magnetised zero = []
magnetised (suc n) = stepping (pos 2458) (negsuc 1228) (pos 0) ∷ magnetised n

abbrev pub BenchEndsAt2457 : Type 0
BenchEndsAt2457 = (n : ℕ) → (flux_of (after_calls (fresh bench_settings) (magnetised n)).field.fine ≡ pos 2457) ↔ (423 ≤ n)
