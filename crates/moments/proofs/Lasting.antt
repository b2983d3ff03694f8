-- Whatever is called, what is read of the record is the last 128 rows of the accepted steps: by one call at a time, the record holding what the list of those
-- rows says (`Holds`).
-- Assumes nothing.
use mathlib.Core.Path.{◌≡◌, refl, sym, ◌∙◌, ap}
use mathlib.Core.Bool.{Bool, true, false, cond, false≢true}
use mathlib.Core.List.{List, [], ◌∷◌, ◌++◌}
use Prim.Native.Nat.{◌≤◌, ◌<◌, min}
use native.Mathlib.Omega.{arith}
use borrow.Author.Tests.{lt-ltb, le-ltb}
use lib.IntN.{ℤ, pos, negsuc, nat_abs}
use lib.ListN.{length}
use Rattle.fixed.specs.Fixed.{equal}
use Rattle.stages.specs.declared.Stepped.{Stepped}
use Rattle.drive.specs.Calls.{made, made_number, stepped, cleared}
use Rattle.ring.specs.Ring.{in_range, rows_in, last128}
use Rattle.ring.proofs.Places.{place_below, rows_most, place_modulo}
use Rattle.ring.proofs.Turned.{last128_long, last128_again, last128_all}
use Rattle.moments.specs.declared.Row.{Row}
use Rattle.moments.specs.declared.Moments.{Moments}
use Rattle.moments.specs.Moments.{none, place_of, real_rows, put, past, moment_at, row_of, kept, recorded, emptied_by, emptied, row_in}
use Rattle.moments.specs.Recordings.{Call, stepping, clearing, starting, meanwhile, Both, after, after_all, noted, moved, noted_all}
use Rattle.moments.specs.Recordings.{read_from, read_all, Rings}
use Rattle.moments.specs.Promised.{Reads, LastMoments, FromAnyRecord, WildCounts, RowByTheModulo, is_row, NineteenPastTheRows, EmptiedOrKept}
use Rattle.moments.proofs.Rows.{row_stands, read_rows, read_at, put_rings, put_read, none_rings}

-- ════ a record, and the list of all the rows that were put in
record Holds (m : Moments) (rs : List Row) : Type 0 where
  rings : Rings m
  read : read_all m ≡ last128 rs

-- a record with no real rows is read as the empty list
none_read : (m : Moments) → real_rows m ≡ 0 → read_all m ≡ []
unfolding read_from
none_read m e = rw e refl

holds_none : Holds none []
unfolding none rows_in in_range last128
holds_none = record { rings = none_rings; read = none_read none refl }

-- whatever its words are, its own rows are a beginning
holds_itself : (m : Moments) → Rings m → Holds m (read_all m)
holds_itself m h =
    let few : length (read_all m) ≤ 128 = rw (read_rows m) (rows_most m.next m.real) in
    record { rings = h; read = sym (last128_all (read_all m) few) }

holds_put : (m : Moments) (rs : List Row) (r : Row) → Holds m rs → Holds (put m r) (rs ++ (r ∷ []))
holds_put m rs r h = record {
  rings = put_rings m h.rings r;
  read = put_read m h.rings r ∙ ap (λ (l : List Row). last128 (l ++ (r ∷ []))) h.read ∙ last128_again rs r;
}

-- ════ the calls
either : (t : Bool) (m n : Moments) (rs ss : List Row) → Holds m rs → Holds n ss → Holds (cond t n m) (cond t ss rs)
either true m n rs ss h k = k
either false m n rs ss h k = h

holds_after : (s : Both) (rs : List Row) (c : Call) → Holds s.1 rs → Holds (after s c).1 (noted s.0 rs c)
unfolding after noted recorded kept emptied emptied_by
holds_after s rs (stepping ia ib count) h =
    let x = stepped s.0 ia ib count in
    let r = row_of ia ib x in
    either (equal (pos 0) x.number) s.1 (put s.1 r) rs (rs ++ (r ∷ [])) h (holds_put s.1 rs r h)
holds_after s rs clearing h = either (equal (pos 0) (cleared s.0).number) s.1 none rs [] h holds_none
holds_after s rs (starting x) h = either (equal (pos 0) (made_number (made x))) s.1 none rs [] h holds_none
holds_after s rs (meanwhile d) h = h

-- the record plays no part in what the drive becomes
drive_after : (s : Both) (c : Call) → (after s c).0 ≡ moved s.0 c
unfolding after moved recorded emptied
drive_after s (stepping ia ib count) = refl
drive_after s clearing = refl
drive_after s (starting x) = refl
drive_after s (meanwhile d) = refl

holds_all : (s : Both) (rs : List Row) (cs : List Call) → Holds s.1 rs → Holds (after_all s cs).1 (noted_all s.0 rs cs)
unfolding after_all noted_all
holds_all s rs [] h = h
holds_all s rs (c ∷ cs) h = rw (← drive_after s c) (holds_all (after s c) (noted s.0 rs c) cs (holds_after s rs c h))

-- ════ what is then read
reads : (m : Moments) (rs : List Row) → Holds m rs → Reads m rs
unfolding moment_at
reads m rs h =
    let many : real_rows m ≡ min (length rs) 128 = sym (read_rows m) ∙ ap length h.read ∙ last128_long rs in
    record {
      how_many = many;
      oldest_first = h.read;
      each = λ i l.
          let real : i < real_rows m = omega arith in
          rw (lt-ltb i (real_rows m) real, ← h.read, read_at m i real) refl;
      past_them = λ i l. let beyond : real_rows m ≤ i = omega arith in rw (le-ltb i (real_rows m) beyond) refl;
    }

-- ════ the promises
pub from_any_record : FromAnyRecord
from_any_record d m cs h = reads (after_all (d, m) cs).1 (noted_all d (read_all m) cs) (holds_all (d, m) (read_all m) cs (holds_itself m h))

pub last_moments : LastMoments
last_moments d cs = reads (after_all (d, none) cs).1 (noted_all d [] cs) (holds_all (d, none) [] cs holds_none)

wild_none : (m : Moments) → in_range m.next m.real ≡ false → real_rows m ≡ 0
unfolding rows_in
wild_none m e = rw e refl

wild_past : (m : Moments) → real_rows m ≡ 0 → (i : ℤ) → moment_at m i ≡ past
unfolding moment_at
wild_past m e (pos i) = rw (e, le-ltb i 0 (omega arith)) refl
wild_past m e (negsuc i) = refl

accepted_put : (m : Moments) (ia ib : ℤ) (s : Stepped) → s.number ≡ pos 0 → kept m ia ib s ≡ put m (row_of ia ib s)
unfolding kept
accepted_put m ia ib s e = ap (λ (t : Bool). cond t (put m (row_of ia ib s)) m) (ap (equal (pos 0)) e)

pub wild_counts : WildCounts
unfolding last128
wild_counts m h e =
    let none_real = wild_none m e in
    record {
      none_real = none_real;
      all_past = wild_past m none_real;
      first_emptied = λ d ia ib count accepted.
          let s = stepped d ia ib count in
          let r = row_of ia ib s in
          ap read_all (accepted_put m ia ib s accepted)
          ∙ put_read m h r
          ∙ ap (λ (l : List Row). last128 (l ++ (r ∷ []))) (none_read m none_real);
    }

pub row_by_the_modulo : RowByTheModulo
row_by_the_modulo m i h l =
    let place = place_modulo (place_of m) (real_rows m) i (place_below m.next m.real) (rows_most m.next m.real) l in
    row_stands m h i l ∙ ap (λ (z : ℤ). row_in m (nat_abs z)) place

pub nineteen_past_the_rows : NineteenPastTheRows
unfolding moment_at is_row past
nineteen_past_the_rows m (pos i) = record { zero = λ e. rw e refl; nineteen = λ e. rw e refl }
nineteen_past_the_rows m (negsuc i) = record { zero = λ e. absurd (false≢true e); nineteen = λ e. refl }

pub emptied_or_kept : EmptiedOrKept
unfolding kept emptied_by
emptied_or_kept d m = record {
  step_refused = λ ia ib count e. rw e refl;
  cleared_empty = λ e. rw e refl;
  clear_refused = λ e. rw e refl;
  started_empty = λ s e. rw e refl;
  start_refused = λ s e. rw e refl;
}
