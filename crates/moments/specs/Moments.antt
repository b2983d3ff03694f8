-- The record of the last moments, beside the drive record (docs/RULES.md, "The last moments"): six rings of 128 places and two counts.
use Rattle.std.specs.Prelude.{ℕ, cond, List, ltb, ℤ, pos, negsuc, get_or, set, replicate, Option, Some, None}
use Rattle.fixed.specs.Fixed.{equal}
use Rattle.drive_record.specs.declared.Drive.{Drive}
use Rattle.stages.specs.declared.Stepped.{Stepped}
use Rattle.drive.specs.Calls.{stepped, cleared}
use Rattle.ring.specs.Ring.{place_in, rows_in, place_after, one_more, oldest_first}
use Rattle.moments.specs.declared.Row.{Row}
use Rattle.moments.specs.declared.Found.{Found}
use Rattle.moments.specs.declared.Moments.{Moments}
use Rattle.moments.specs.declared.Recorded.{Recorded}
use Rattle.moments.specs.declared.Emptied.{Emptied}

-- ════ a record
-- empty: no rows, and zeros in every place
abbrev pub zeros : List ℤ
zeros = replicate 128 (pos 0)

unfoldable pub none : Moments
none = record { ia = zeros; ib = zeros; speed = zeros; a = zeros; b = zeros; c = zeros; next = pos 0; real = pos 0 }

-- the place of the next row, and how many rows are real; both 0 where a count is out of range
abbrev pub place_of : Moments → ℕ
place_of m = place_in m.next m.real

abbrev pub real_rows : Moments → ℕ
real_rows m = rows_in m.next m.real

-- a row goes to the next place of each ring
unfoldable pub put : Moments → Row → Moments
put m r = record {
  ia = set m.ia (place_of m) r.ia;
  ib = set m.ib (place_of m) r.ib;
  speed = set m.speed (place_of m) r.speed;
  a = set m.a (place_of m) r.a;
  b = set m.b (place_of m) r.b;
  c = set m.c (place_of m) r.c;
  next = pos (place_after (place_of m));
  real = pos (one_more (real_rows m));
}

-- ════ reading
-- the row i, oldest first
unfoldable pub row_at : Moments → ℕ → Row
row_at m i = record {
  ia = get_or (oldest_first (place_of m) (real_rows m) m.ia) i (pos 0);
  ib = get_or (oldest_first (place_of m) (real_rows m) m.ib) i (pos 0);
  speed = get_or (oldest_first (place_of m) (real_rows m) m.speed) i (pos 0);
  a = get_or (oldest_first (place_of m) (real_rows m) m.a) i (pos 0);
  b = get_or (oldest_first (place_of m) (real_rows m) m.b) i (pos 0);
  c = get_or (oldest_first (place_of m) (real_rows m) m.c) i (pos 0);
}

-- a number and a row's words; past the real rows, 19 and zeros
abbrev pub found : ℤ → Row → Found
found number r = record { number = number; ia = r.ia; ib = r.ib; speed = r.speed; a = r.a; b = r.b; c = r.c }

abbrev pub no_row : Row
no_row = record { ia = pos 0; ib = pos 0; speed = pos 0; a = pos 0; b = pos 0; c = pos 0 }

unfoldable pub past : Found
past = found (pos 19) no_row

-- what is read at any number
unfoldable pub moment_at : Moments → ℤ → Found
moment_at m (pos i) = cond (ltb i (real_rows m)) (found (pos 0) (row_at m i)) past
moment_at m (negsuc i) = past

-- ════ the calls
-- the row of a step that answered s: the samples, the speed after it and its compares
unfoldable pub row_of : ℤ → ℤ → Stepped → Row
row_of ia ib s = record {
  ia = ia;
  ib = ib;
  speed = s.drive.shaft.speed;
  a = s.pulses.a;
  b = s.pulses.b;
  c = s.pulses.c;
}

-- the record after it: a refused step adds no row
unfoldable pub kept : Moments → ℤ → ℤ → Stepped → Moments
kept m ia ib s = cond (equal (pos 0) s.number) (put m (row_of ia ib s)) m

-- a recorded step: the step answers as before
unfoldable pub recorded : Drive → Moments → ℤ → ℤ → ℤ → Recorded
recorded d m ia ib count = record { step = stepped d ia ib count; moments = kept m ia ib (stepped d ia ib count) }

-- the record after a clear or a start that gave this number: accepted, it is emptied and its rows are zeroed
unfoldable pub emptied_by : Moments → ℤ → Moments
emptied_by m number = cond (equal (pos 0) number) none m

-- a recorded clear
unfoldable pub emptied : Drive → Moments → Emptied
emptied d m = record { answer = cleared d; moments = emptied_by m (cleared d).number }

-- ════ where the code finds it
-- what stands at a place of each ring
unfoldable pub row_in : Moments → ℕ → Row
row_in m at = record {
  ia = get_or m.ia at (pos 0);
  ib = get_or m.ib at (pos 0);
  speed = get_or m.speed at (pos 0);
  a = get_or m.a at (pos 0);
  b = get_or m.b at (pos 0);
  c = get_or m.c at (pos 0);
}

-- what was looked for: that row with 0, or where there is none 19 and zeros
unfoldable pub found_of : Option Row → Found
found_of (Some r) = found (pos 0) r
found_of None = past
