-- What the program writes of its rows is what one run of them all writes, and its counts are the run's (`one_run`); of an input of fewer than
-- 2^64 − 1 bytes none of them is held (`counts_exact`).
-- Assumes nothing.
use mathlib.Core.Path.{◌≡◌, refl, sym, ◌∙◌, ap, ap₂}
use mathlib.Core.Bool.{Bool, true, false, cond}
use mathlib.Core.List.{List, [], ◌∷◌, ◌++◌, append-nil}
use mathlib.Core.Option.{Option, none, some}
use Prim.Native.Nat.{ℕ, zero, suc, ◌+◌, ◌*◌, ◌/◌, ◌%◌, ◌≤◌}
use native.Mathlib.Nat.{zero-add}
use native.Mathlib.Omega.{arith}
use borrow.Author.Tests.{eqb-true, eq-eqb, le-leb}
use lib.Dec.{eqb}
use lib.IntN.{ℤ, pos}
use lib.ListN.{length, replicate, length-append, length-replicate, drop_of_length-le}
use Rattle.drive_record.specs.declared.Drive.{Drive}
use Rattle.stages.specs.declared.Stepped.{Stepped}
use Rattle.rows.specs.declared.Ran.{Ran}
use Rattle.rows.specs.Rows.{row_stepped, four, one, is_accepted, is_clipped, no_rows, after_row, ran_of, written_of, rows_in, rows_fit, run_of, output_after}
use Rattle.fixed.proofs.HeldLaws.{and_both}
use Rattle.rows.proofs.Runs.{one_most}
use Rattle.rows.proofs.Outcomes.{run_0}
use Rattle.rows.proofs.Pieces.{joined as joined_runs, ran_in_pieces, written_in_pieces}
use Rattle.text.specs.Grammar.{line_of}
use Rattle.writing.specs.Decimal.{line_text}
use Rattle.feeding.specs.Lines.{lines_of, if_fits, good_in, good_then, good_of, good_lines, ends_bad, after_all, answers_to, held_count, one_more}
use Rattle.feeding.specs.Feeding.{joined}
use Rattle.stream.specs.declared.Tally.{Tally}
use Rattle.stream.specs.Program.{is_row, tally_start, step_of, tally_of, answer_text, header_text, closing_text, program_text, fours_text, ran_tally}
use Rattle.stream.specs.Promised.{AsOneRun, CountsExact}

-- ════ rows of three numbers each
pub data Threes : List (List ℤ) → Type 0 where
  nil : Threes []
  cons : {row : List ℤ} {rows : List (List ℤ)} → length row ≡ 3 → Threes rows → Threes (row ∷ rows)

then-threes : (o : Option (List ℤ)) (rows : List (List ℤ)) → Threes rows → Threes (good_then (if_fits is_row o) rows)
unfolding good_then if_fits is_row
then-threes none rows h = nil
then-threes (some zs) rows h = by (eqb (length zs) 3) refl
  where
    by : (b : Bool) → eqb (length zs) 3 ≡ b → Threes (good_then (cond b (some zs) none) rows)
    by true e = cons (eqb-true (length zs) 3 e) h
    by false e = nil

good_threes : (ws : List (List ℕ)) → Threes (good_of is_row ws)
unfolding good_of good_in
good_threes [] = nil
good_threes (w ∷ ws) = then-threes (line_of w) (good_of is_row ws) (good_threes ws)

threes_long : {rows : List (List ℤ)} → Threes rows → length (joined rows) ≡ 3 * length rows
unfolding joined
threes_long nil = refl
threes_long (cons {row} {rows} l h) = length-append row (joined rows) ∙ omega (arith, l, threes_long h)

-- ════ a run behind others
-- a count and more, held
abbrev plus : ℕ → ℕ → ℕ
plus n more = held_count (n + more)

abbrev with_run : Tally → Ran → ℕ → Tally
with_run t r n =
    record { drive = r.drive; rows = plus t.rows n; accepted = plus t.accepted r.accepted; clipped = plus t.clipped r.clipped }

-- counts that are held
record Held (t : Tally) : Type 0 where
  rows : t.rows ≤ 18446744073709551615
  accepted : t.accepted ≤ 18446744073709551615
  clipped : t.clipped ≤ 18446744073709551615

held_if : (b : Bool) (n : ℕ) → n ≤ 18446744073709551615 → cond b (one_more n) n ≤ 18446744073709551615
held_if true n h = omega arith
held_if false n h = h

held_more : (t : Tally) (row : List ℤ) → Held t → Held (tally_of t row)
unfolding tally_of
held_more t row h =
    record {
      rows = omega arith;
      accepted = held_if (is_accepted (step_of t row)) t.accepted h.accepted;
      clipped = held_if (is_clipped (step_of t row)) t.clipped h.clipped;
    }

-- no row
with_none : (t : Tally) → Held t → t ≡ with_run t (no_rows t.drive (pos 0)) 0
unfolding no_rows
with_none t h =
    let a : plus t.rows 0 ≡ t.rows = omega (arith, h.rows) in
    let b : plus t.accepted 0 ≡ t.accepted = omega (arith, h.accepted) in
    let c : plus t.clipped 0 ≡ t.clipped = omega (arith, h.clipped) in
    rw (a, b, c) refl

-- a row in front of others
plus_if : (b : Bool) (n m : ℕ) → plus n (0 + one b + m) ≡ plus (cond b (one_more n) n) m
plus_if true n m = omega arith
plus_if false n m = omega arith

with_more : (t : Tally) (row : List ℤ) (r : Ran) (m : ℕ)
    → with_run t (joined_runs (after_row (no_rows t.drive (pos 0)) (step_of t row)) r) (1 + m) ≡ with_run (tally_of t row) r m
unfolding tally_of after_row no_rows
with_more t row r m =
    let a : plus t.rows (1 + m) ≡ plus (one_more t.rows) m = omega arith in
    rw (a, plus_if (is_accepted (step_of t row)) t.accepted r.accepted, plus_if (is_clipped (step_of t row)) t.clipped r.clipped) refl

one_ran : (t : Tally) (row : List ℤ) →
    (ran_of t.drive row 1 ≡ after_row (no_rows t.drive (pos 0)) (step_of t row))
    × ((ran_of t.drive row 1).drive ≡ (tally_of t row).drive) × (written_of t.drive row 1 ≡ four (step_of t row))
unfolding ran_of written_of no_rows after_row tally_of
one_ran t row = (refl, refl, refl)

fours_more : (s : Stepped) (l : List ℤ) → fours_text (four s ++ l) ≡ line_text (four s) ++ fours_text l
unfolding fours_text four
fours_more s l = refl

-- ════ all the rows
module _ (t : Tally) (row : List ℤ) (rows : List (List ℤ)) (l : length row ≡ 3) where
  ran_more : ran_of t.drive (row ++ joined rows) (1 + length rows)
      ≡ joined_runs (after_row (no_rows t.drive (pos 0)) (step_of t row)) (ran_of (tally_of t row).drive (joined rows) (length rows))
  ran_more =
      ran_in_pieces row (joined rows) 1 l t.drive (length rows)
      ∙ ap₂ (λ (x : Ran) (y : Drive). joined_runs x (ran_of y (joined rows) (length rows))) (one_ran t row).0 (one_ran t row).1

  written_more : written_of t.drive (row ++ joined rows) (1 + length rows)
      ≡ four (step_of t row) ++ written_of (tally_of t row).drive (joined rows) (length rows)
  written_more =
      written_in_pieces row (joined rows) 1 l t.drive (length rows)
      ∙ ap₂ (λ (x : List ℤ) (y : Drive). x ++ written_of y (joined rows) (length rows)) (one_ran t row).2 (one_ran t row).1

first : (n : ℕ) → suc n ≡ 1 + n
first n = omega arith

ran_none : (d : Drive) → ran_of d [] 0 ≡ no_rows d (pos 0)
unfolding ran_of
ran_none d = refl

rows_run : (t : Tally) {rows : List (List ℤ)} → Threes rows → Held t
    → after_all tally_of t rows ≡ with_run t (ran_of t.drive (joined rows) (length rows)) (length rows)
unfolding after_all joined
rows_run t nil h = rw (ran_none t.drive) (with_none t h)
rows_run t (cons {row} {rows} l k) h =
    let n = length rows in
    rows_run (tally_of t row) k (held_more t row h)
    ∙ sym (ap (λ (j : ℕ). with_run t (ran_of t.drive (row ++ joined rows) j) j) (first n) ∙ ap (λ (q : Ran). with_run t q (1 + n)) (ran_more t row rows l)
    ∙ with_more t row (ran_of (tally_of t row).drive (joined rows) n) n)

written_0 : (d : Drive) → fours_text (written_of d [] 0) ≡ []
unfolding written_of fours_text
written_0 d = refl

rows_written : (t : Tally) {rows : List (List ℤ)} → Threes rows
    → answers_to tally_of answer_text t rows ≡ fours_text (written_of t.drive (joined rows) (length rows))
unfolding answers_to joined answer_text
rows_written t nil = sym (written_0 t.drive)
rows_written t (cons {row} {rows} l k) =
    let n = length rows in
    let w = written_of (tally_of t row).drive (joined rows) n in
    ap (λ (x : List ℕ). line_text (four (step_of t row)) ++ x) (rows_written (tally_of t row) k)
    ∙ sym (ap (λ (j : ℕ). fours_text (written_of t.drive (row ++ joined rows) j)) (first n)
    ∙ ap fours_text (written_more t row rows l) ∙ fours_more (step_of t row) w)

-- ════ the run
-- rows that fit are run
rows_fit_lem : (samples out n : ℕ) → samples ≡ 3 * n → out ≡ 4 * n → rows_fit samples out ≡ true
unfolding rows_fit
rows_fit_lem samples out n s o = and_both (eq-eqb (samples % 3) 0 (omega (arith, s))) (le-leb (4 * (samples / 3)) out (omega (arith, s, o)))

-- behind no others
with_first : (d : Drive) (r : Ran) (n : ℕ) → with_run (tally_start d) r n ≡ ran_tally r n
with_first d r n = rw (zero-add n, zero-add r.accepted, zero-add r.clipped) refl

pub one_run : AsOneRun
unfolding program_text
one_run d input b =
    let rows = good_lines is_row input in
    let k = good_threes (lines_of [] input) in
    let samples = joined rows in
    let n = length rows in
    let m = threes_long k in
    let e : rows_in samples ≡ n = omega (arith, m) in
    let out = replicate (4 * rows_in samples) (pos 0) in
    let o : length out ≡ 4 * n = length-replicate (4 * rows_in samples) (pos 0) ∙ ap (λ (j : ℕ). 4 * j) e in
    let r = run_0 d samples out b (rows_fit_lem (length samples) (length out) n m o) in
    let w : output_after d samples out ≡ written_of d samples n =
    r.1 ∙ ap₂ (λ (j : ℕ) (l : List ℤ). written_of d samples j ++ l) e (drop_of_length-le out {i = 4 * rows_in samples} (omega (arith, e, o)))
    ∙ append-nil (written_of d samples n) in
    let q : run_of d samples out ≡ ran_of d samples n = r.0 ∙ ap (ran_of d samples) e in
    let h = rows_run (tally_start d) k (record { rows = omega arith; accepted = omega arith; clipped = omega arith }) in
    ap₂ (λ (x : List ℕ) (y : Tally). header_text ++ (x ++ closing_text (ends_bad is_row input) y)) (rows_written (tally_start d) k ∙ ap fours_text (sym w))
    (h ∙ with_first d (ran_of d samples n) n ∙ sym (ap₂ ran_tally q e))

-- ════ the counts are exact
ran_few : (d : Drive) (samples : List ℤ) (n : ℕ) → ((ran_of d samples n).accepted ≤ n) × ((ran_of d samples n).clipped ≤ n)
unfolding ran_of no_rows after_row
ran_few d samples zero = (omega arith, omega arith)
ran_few d samples (suc n) =
    let h = ran_few d samples n in
    let s = row_stepped (ran_of d samples n).drive samples n in
    (omega (arith, h.0, one_most (is_accepted s)), omega (arith, h.1, one_most (is_clipped s)))

then-few : (o : Option (List ℤ)) (rows : List (List ℤ)) (n : ℕ) → length rows ≤ n → length (good_then o rows) ≤ n + 1
unfolding good_then
then-few none rows n h = omega arith
then-few (some zs) rows n h = omega (arith, h)

good_few : (ws : List (List ℕ)) → length (good_of is_row ws) ≤ length ws
unfolding good_of
good_few [] = omega arith
good_few (w ∷ ws) = omega (arith, then-few (good_in is_row w) (good_of is_row ws) (length ws) (good_few ws))

lines_few : (p bs : List ℕ) → length (lines_of p bs) ≤ length bs
unfolding lines_of
lines_few p [] = omega arith
lines_few p (b ∷ bs) = by (eqb b 10) (lines_few [] bs) (lines_few (p ++ (b ∷ [])) bs)
  where
    by : (c : Bool) → length (lines_of [] bs) ≤ length bs → length (lines_of (p ++ (b ∷ [])) bs) ≤ length bs
        → length (cond c (p ∷ lines_of [] bs) (lines_of (p ++ (b ∷ [])) bs)) ≤ length (b ∷ bs)
    by true h k = omega arith
    by false h k = omega arith

pub counts_exact : CountsExact
counts_exact d input h =
    let rows = good_lines is_row input in
    let f = ran_few d (joined rows) (length rows) in
    let l : length rows ≤ length input = omega (arith, good_few (lines_of [] input), lines_few [] input) in
    (omega (arith, l, h), omega (arith, l, h), omega (arith, l, h, f.0), omega (arith, l, h, f.1))
