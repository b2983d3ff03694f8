-- The run (docs/RULES.md, "Run"): row by row, each row as one step gives it.
use Rattle.std.specs.Prelude.{ℕ, zero, suc, ◌+◌, ◌*◌, ◌/◌, ◌%◌, Bool, cond, ◌&&◌, List, [], ◌∷◌, ◌++◌, length, get_or, drop, leb, eqb, ℤ, pos}
use Rattle.fixed.specs.Fixed.{equal}
use Rattle.fixed.specs.Ladder.{Rung, when, unless, answer_of}
use Rattle.drive_record.specs.declared.Drive.{Drive}
use Rattle.drive_record.specs.Record.{broken}
use Rattle.stages.specs.declared.Stepped.{Stepped}
use Rattle.drive.specs.Calls.{stepped}
use Rattle.rows.specs.declared.Ran.{Ran}

-- ════ one row
-- row i, (ia, ib, count), is one step
unfoldable pub row_stepped : Drive → List ℤ → ℕ → Stepped
row_stepped d samples i = stepped d (get_or samples (3 * i) (pos 0)) (get_or samples (3 * i + 1) (pos 0)) (get_or samples (3 * i + 2) (pos 0))

-- it writes three compares and the number
unfoldable pub four : Stepped → List ℤ
four s = s.pulses.a ∷ s.pulses.b ∷ s.pulses.c ∷ s.number ∷ []

-- an accepted step has number 0
unfoldable pub is_accepted : Stepped → Bool
is_accepted s = equal (pos 0) s.number

-- the clipped ones among them
unfoldable pub is_clipped : Stepped → Bool
is_clipped s = is_accepted s && s.pulses.clipped

abbrev pub one : Bool → ℕ
one b = cond b 1 0

-- ════ the rows, one after the other
-- the run's own number, and no row taken
unfoldable pub no_rows : Drive → ℤ → Ran
no_rows d number = record { drive = d; number = number; accepted = 0; clipped = 0 }

-- one row more: the drive after its step, and the counts
unfoldable pub after_row : Ran → Stepped → Ran
after_row r s = record {
  drive = s.drive;
  number = r.number;
  accepted = r.accepted + one (is_accepted s);
  clipped = r.clipped + one (is_clipped s);
}

-- what stands after the first n rows
unfoldable pub ran_of : Drive → List ℤ → ℕ → Ran
ran_of d samples zero = no_rows d (pos 0)
ran_of d samples (suc i) = after_row (ran_of d samples i) (row_stepped (ran_of d samples i).drive samples i)

-- the numbers that they write
unfoldable pub written_of : Drive → List ℤ → ℕ → List ℤ
written_of d samples zero = []
written_of d samples (suc i) = written_of d samples i ++ four (row_stepped (ran_of d samples i).drive samples i)

-- ════ the run
abbrev pub rows_in : List ℤ → ℕ
rows_in samples = length samples / 3

-- so many samples are in threes, and so much output is not shorter than four numbers a row
unfoldable pub rows_fit : ℕ → ℕ → Bool
rows_fit samples out = eqb (samples % 3) 0 && leb (4 * (samples / 3)) out

-- its table, with what is answered where it is refused
abbrev pub run_table : {A : Type 0} → Drive → List ℤ → List ℤ → (ℤ → A) → List (Rung A)
run_table d samples out refused = when (broken d) 14 refused ∷ unless (rows_fit (length samples) (length out)) 9 refused ∷ []

-- refused, the record as it was and both counts 0; else the run's own number is 0
unfoldable pub run_of : Drive → List ℤ → List ℤ → Ran
run_of d samples out = answer_of (run_table d samples out (no_rows d)) (ran_of d samples (rows_in samples))

-- the output after it: refused, nothing written; else places past the rows' output stay as they are
unfoldable pub output_after : Drive → List ℤ → List ℤ → List ℤ
output_after d samples out = answer_of (run_table d samples out (λ number. out)) (written_of d samples (rows_in samples) ++ drop (4 * rows_in samples) out)
