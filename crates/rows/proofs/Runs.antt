-- A run's loop, over plain numbers and lists: what stands after i rows, and after one row more.
-- Assumes nothing.
use mathlib.Core.Path.{◌≡◌, refl, ◌∙◌, ap}
use mathlib.Core.Bool.{Bool, true, false}
use mathlib.Core.List.{List, ◌++◌}
use Prim.Native.Nat.{ℕ, zero, suc, ◌+◌, ◌*◌, ◌^◌, ◌≤◌, ◌<◌}
use native.Mathlib.Omega.{arith}
use native.Mathlib.Numerals.{add-one}
use lib.IntN.{ℤ, pos}
use lib.ListN.{length, take, drop, length-append}
use mir.Val.{bool_byte}
use Rattle.drive_record.specs.declared.Drive.{Drive}
use Rattle.drive_record.proofs.Ranges.{Sound}
use Rattle.stages.specs.declared.Stepped.{Stepped}
use Rattle.drive.proofs.Kept.{stepped_sound_lem}
use Rattle.rows.specs.declared.Ran.{Ran}
use Rattle.rows.specs.Rows.{row_stepped, four, is_accepted, is_clipped, one, no_rows, after_row, ran_of, written_of}
use Rattle.rows.proofs.Lists.{next_four}

-- n rows write 4·n numbers
pub written_length : (d : Drive) (samples : List ℤ) (n : ℕ) → length (written_of d samples n) ≡ 4 * n
unfolding written_of four
written_length d samples zero = refl
written_length d samples (suc n) = let h = written_length d samples n in simp length-append (omega arith)

-- a flag as a number
pub one_byte : (b : Bool) → bool_byte b ≡ one b
one_byte true = refl
one_byte false = refl

pub one_most : (b : Bool) → one b ≤ 1
one_most true = omega arith
one_most false = omega arith

pub row_sound : (d : Drive) (samples : List ℤ) (i : ℕ) → Sound d → Sound (row_stepped d samples i).drive
unfolding row_stepped
row_sound d samples i h = stepped_sound_lem d _ _ _ h

pub rows_sound : (d : Drive) (samples : List ℤ) (n : ℕ) → Sound d → Sound (ran_of d samples n).drive
unfolding ran_of no_rows after_row
rows_sound d samples zero h = h
rows_sound d samples (suc n) h = row_sound (ran_of d samples n).drive samples n (rows_sound d samples n h)

-- what stands after i of n rows of a run from d over samples into o
pub record Upto (d : Drive) (samples o : List ℤ) (n : ℕ) (out : List ℤ) (cur : Drive) (accepted clipped i : ℕ) : Type 0 where
  pub low : i ≤ n
  pub is_sound : Sound cur
  pub ran : record { drive = cur; number = pos 0; accepted = accepted; clipped = clipped } ≡ ran_of d samples i
  pub few : accepted ≤ i
  pub fewer : clipped ≤ i
  pub long : length out ≡ length o
  pub wrote : out ≡ written_of d samples i ++ drop (4 * i) o
  pub small : 4 * n < 2 ^ 63

-- one row more, with the step s and the list that its four numbers leave
module _ {d : Drive} {samples o out : List ℤ} {n : ℕ} {cur : Drive} {accepted clipped i : ℕ} (u : Upto d samples o n out cur accepted clipped i) where
  pub more : (s : Stepped) (next : List ℤ) (at cl : ℕ) → i < n → s ≡ row_stepped cur samples i →
      next ≡ take (4 * i) out ++ (four s ++ drop (4 * i + 4) out) → length next ≡ length out →
      at ≡ one (is_accepted s) → cl ≡ one (is_clipped s) →
      Upto d samples o n next s.drive (accepted + at) (clipped + cl) (i + 1)
  unfolding ran_of after_row written_of four
  more s next at cl h es en el ea ec =
      let e : s ≡ row_stepped (ran_of d samples i).drive samples i = rw (← u.ran) es in
      let m : 4 * i + 4 ≡ 4 * (i + 1) = omega arith in
      let f = next_four s.pulses.a s.pulses.b s.pulses.c s.number (written_of d samples i) o (4 * i) (written_length d samples i) in
      record {
        low = omega arith;
        is_sound = rw es (row_sound cur samples i u.is_sound);
        ran = rw (add-one, ea, ec, es) (ap (λ (r : Ran). after_row r (row_stepped r.drive samples i)) u.ran);
        few = omega (arith, u.few, ea, one_most (is_accepted s));
        fewer = omega (arith, u.fewer, ec, one_most (is_clipped s));
        long = el ∙ u.long;
        wrote = rw (← m, add-one, ← e) ((rw u.wrote at en) ∙ f);
        small = u.small;
      }
