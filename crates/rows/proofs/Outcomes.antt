-- What a run answers and leaves, case by case: 14, 9, and the rows; and when each is so.
-- Assumes nothing.
use mathlib.Core.Path.{◌≡◌, refl, sym}
use mathlib.Core.Bool.{Bool, true, false}
use mathlib.Core.List.{List, ◌++◌}
use Prim.Native.Nat.{ℕ, ◌*◌, ◌/◌, ◌%◌, ◌≤◌}
use native.Mathlib.Omega.{arith}
use borrow.Author.Tests.{le-leb, lt-leb, leb-true, leb-false, eqb-true}
use lib.Dec.{eqb, leb}
use lib.IntN.{ℤ, pos}
use lib.ListN.{length, drop}
use Rattle.fixed.proofs.HeldLaws.{and_left, and_right}
use Rattle.drive_record.specs.declared.Drive.{Drive}
use Rattle.drive_record.specs.Record.{broken}
use Rattle.rows.specs.Rows.{no_rows, ran_of, written_of, rows_in, rows_fit, run_of, output_after}

-- ════ 9
-- n rows against the output, counted in fours
pub fours : (n m : ℕ) → leb n (m / 4) ≡ leb (4 * n) m
fours n m = by (leb n (m / 4)) refl
  where
    by : (b : Bool) → leb n (m / 4) ≡ b → b ≡ leb (4 * n) m
    by true e = sym (le-leb (4 * n) m (omega (arith, leb-true n (m / 4) e)))
    by false e = sym (lt-leb (4 * n) m (omega (arith, leb-false n (m / 4) e)))

pub threes : (samples out : ℕ) → rows_fit samples out ≡ true → samples ≡ 3 * (samples / 3)
unfolding rows_fit
threes samples out e = let m = eqb-true (samples % 3) 0 (and_left (eqb (samples % 3) 0) _ e) in omega arith

pub room : (samples out : ℕ) → rows_fit samples out ≡ true → 4 * (samples / 3) ≤ out
unfolding rows_fit
room samples out e = leb-true (4 * (samples / 3)) out (and_right (eqb (samples % 3) 0) _ e)

-- ════ the three answers
module _ (d : Drive) (samples out : List ℤ) where
  pub run_14 : broken d ≡ true → (run_of d samples out ≡ no_rows d (pos 14)) × (output_after d samples out ≡ out)
  unfolding run_of output_after
  run_14 b = (simp b, simp b)

  pub run_9 : broken d ≡ false → rows_fit (length samples) (length out) ≡ false → (run_of d samples out ≡ no_rows d (pos 9)) ×
      (output_after d samples out ≡ out)
  unfolding run_of output_after
  run_9 b f = (simp (b, f), simp (b, f))

  pub run_0 : broken d ≡ false → rows_fit (length samples) (length out) ≡ true → (run_of d samples out ≡ ran_of d samples (rows_in samples))
      × (output_after d samples out ≡ written_of d samples (rows_in samples) ++ drop (4 * rows_in samples) out)
  unfolding run_of output_after
  run_0 b f = (simp (b, f), simp (b, f))
