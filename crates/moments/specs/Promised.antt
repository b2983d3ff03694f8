-- What the record of the last moments is for: whatever was called, it can be read, oldest first, what the last 128 accepted steps were.
use Rattle.std.specs.Prelude.{ℕ, ◌≤◌, ◌<◌, min, ◌≡◌, Bool, true, false, List, [], ◌∷◌, ltb, ℤ, pos, negsuc, nat_abs, ◌+ℤ◌, ◌-ℤ◌, length, get_or}
use Rattle.fixed.specs.Fixed.{modulo, equal}
use Rattle.settings.specs.declared.Settings.{Settings}
use Rattle.drive_record.specs.declared.Drive.{Drive}
use Rattle.drive.specs.Calls.{made, made_number, stepped, cleared}
use Rattle.ring.specs.Ring.{in_range, last128}
use Rattle.moments.specs.declared.Row.{Row}
use Rattle.moments.specs.declared.Moments.{Moments}
use Rattle.moments.specs.Moments.{none, place_of, real_rows, row_at, found, no_row, past, moment_at, row_of, kept, emptied_by, row_in}
use Rattle.moments.specs.Recordings.{Call, after_all, noted_all, read_all, Rings}

-- ════ from an empty record, through any calls cs
-- so many rows are real as there were accepted steps since the last accepted start or clear, 128 at most; read one by one, oldest first, they are the last
-- of those; past them there is 19
pub record Reads (m : Moments) (rows : List Row) : Type 0 where
  pub how_many : real_rows m ≡ min (length rows) 128
  pub oldest_first : read_all m ≡ last128 rows
  pub each : (i : ℕ) → i < min (length rows) 128 → moment_at m (pos i) ≡ found (pos 0) (get_or (last128 rows) i no_row)
  pub past_them : (i : ℕ) → min (length rows) 128 ≤ i → moment_at m (pos i) ≡ past

abbrev pub LastMoments : Type 0
LastMoments = (d : Drive) (cs : List Call) → Reads (after_all (d, none) cs).1 (noted_all d [] cs)

-- ════ from any record at all
-- it goes by its own words: the rows that it has count as the first
abbrev pub FromAnyRecord : Type 0
FromAnyRecord = (d : Drive) (m : Moments) (cs : List Call) → Rings m → Reads (after_all (d, m) cs).1 (noted_all d (read_all m) cs)

-- counts out of range are read as empty, and an accepted step first empties the record
pub record ReadAsEmpty (m : Moments) : Type 0 where
  pub none_real : real_rows m ≡ 0
  pub all_past : (i : ℤ) → moment_at m i ≡ past
  pub first_emptied : (d : Drive) (ia ib count : ℤ) → (stepped d ia ib count).number ≡ pos 0
      → read_all (kept m ia ib (stepped d ia ib count)) ≡ row_of ia ib (stepped d ia ib count) ∷ []

abbrev pub WildCounts : Type 0
WildCounts = (m : Moments) → Rings m → in_range m.next m.real ≡ false → ReadAsEmpty m

-- its row i stands at the place (next − real + i) modulo 128 of each ring
abbrev pub RowByTheModulo : Type 0
RowByTheModulo = (m : Moments) (i : ℕ) → Rings m → i < real_rows m →
    row_at m i ≡ row_in m (nat_abs (modulo (pos (place_of m) -ℤ pos (real_rows m) +ℤ pos i) (pos 128)))

-- whether i is a row of it
unfoldable pub is_row : Moments → ℤ → Bool
is_row m (pos i) = ltb i (real_rows m)
is_row m (negsuc i) = false

-- a row that is there is read with 0; any other number gives 19 and zeros
pub record ZeroOrNineteen (m : Moments) (i : ℤ) : Type 0 where
  pub zero : is_row m i ≡ true → (moment_at m i).number ≡ pos 0
  pub nineteen : is_row m i ≡ false → moment_at m i ≡ found (pos 19) no_row

abbrev pub NineteenPastTheRows : Type 0
NineteenPastTheRows = (m : Moments) (i : ℤ) → ZeroOrNineteen m i

-- an accepted clear or start leaves an empty record, whatever it was; a refused call leaves every word as it is
pub record LeftByEach (d : Drive) (m : Moments) : Type 0 where
  pub step_refused : (ia ib count : ℤ) → equal (pos 0) (stepped d ia ib count).number ≡ false → kept m ia ib (stepped d ia ib count) ≡ m
  pub cleared_empty : (cleared d).number ≡ pos 0 → emptied_by m (cleared d).number ≡ none
  pub clear_refused : equal (pos 0) (cleared d).number ≡ false → emptied_by m (cleared d).number ≡ m
  pub started_empty : (s : Settings) → made_number (made s) ≡ pos 0 → emptied_by m (made_number (made s)) ≡ none
  pub start_refused : (s : Settings) → equal (pos 0) (made_number (made s)) ≡ false → emptied_by m (made_number (made s)) ≡ m

abbrev pub EmptiedOrKept : Type 0
EmptiedOrKept = (d : Drive) (m : Moments) → LeftByEach d m
