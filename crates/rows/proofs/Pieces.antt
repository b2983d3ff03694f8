-- A run in two pieces is the run: rows after others, from the drive that these leave. So whoever has more rows than room may run them in
-- batches.
-- Assumes nothing.
use mathlib.Core.Path.{◌≡◌, refl, sym, ◌∙◌}
use mathlib.Core.Bool.{true, false}
use mathlib.Core.List.{List, ◌++◌, append-nil, append_assoc}
use Prim.Native.Nat.{ℕ, zero, suc, ◌+◌, ◌*◌, ◌≤◌, ◌<◌}
use native.Mathlib.Nat.{add-zero, add-suc, add_assoc}
use native.Mathlib.Omega.{arith}
use lib.IntN.{ℤ, pos}
use lib.ListN.{length, length-append, get_or-append}
use lib.Seq.{get_or-append-add}
use Rattle.drive_record.specs.declared.Drive.{Drive}
use Rattle.drive_record.specs.Record.{broken}
use Rattle.drive_record.proofs.Ranges.{not_broken}
use Rattle.stages.specs.declared.Stepped.{Stepped}
use Rattle.rows.specs.declared.Ran.{Ran}
use Rattle.rows.specs.Rows.{row_stepped, four, no_rows, after_row, ran_of, written_of, rows_in, rows_fit, run_of}
use Rattle.rows.proofs.Runs.{rows_sound}
use Rattle.rows.proofs.Outcomes.{threes, run_0}

-- what stands after rows r and then rows q
abbrev pub joined : Ran → Ran → Ran
joined r q =
    record { drive = q.drive; number = q.number; accepted = r.accepted + q.accepted; clipped = r.clipped + q.clipped }

joined_none : (r : Ran) → r.number ≡ pos 0 → r ≡ joined r (no_rows r.drive (pos 0))
unfolding no_rows
joined_none r e = rw (← e) (simp add-zero)

joined_after : (r q : Ran) (s : Stepped) → after_row (joined r q) s ≡ joined r (after_row q s)
unfolding after_row
joined_after r q s = simp add_assoc

number_0 : (d : Drive) (samples : List ℤ) (n : ℕ) → (ran_of d samples n).number ≡ pos 0
unfolding ran_of no_rows after_row
number_0 d samples zero = refl
number_0 d samples (suc n) = number_0 d samples n

-- n rows s, and then the rows t
module _ (s t : List ℤ) (n : ℕ) (h : length s ≡ 3 * n) where
  -- the first n rows are read off s
  early : (c : Drive) (i : ℕ) → i < n → row_stepped c (s ++ t) i ≡ row_stepped c s i
  unfolding row_stepped
  early c i l =
      let a = get_or-append s t (pos 0) (3 * i) (omega arith) in
      let b = get_or-append s t (pos 0) (3 * i + 1) (omega arith) in
      let e = get_or-append s t (pos 0) (3 * i + 2) (omega arith) in
      rw (a, b, e)

  -- the others off t
  late : (c : Drive) (i : ℕ) → row_stepped c (s ++ t) (n + i) ≡ row_stepped c t i
  unfolding row_stepped
  late c i =
      let p : 3 * (n + i) ≡ length s + 3 * i = omega arith in
      let q : length s + 3 * i + 1 ≡ length s + (3 * i + 1) = omega arith in
      let r : length s + 3 * i + 2 ≡ length s + (3 * i + 2) = omega arith in
      rw (p, q, r, get_or-append-add s t (3 * i) (pos 0), get_or-append-add s t (3 * i + 1) (pos 0), get_or-append-add s t (3 * i + 2) (pos 0))

  module _ (d : Drive) where
    -- among the first n rows
    early_more : (i : ℕ) → i < n → ran_of d (s ++ t) i ≡ ran_of d s i → ran_of d (s ++ t) (suc i) ≡ ran_of d s (suc i)
    unfolding ran_of
    early_more i l e = rw (e, early (ran_of d s i).drive i l)

    ran_early : (i : ℕ) → i ≤ n → ran_of d (s ++ t) i ≡ ran_of d s i
    unfolding ran_of
    ran_early zero l = refl
    ran_early (suc i) l = early_more i (omega arith) (ran_early i (omega arith))

    written_early : (i : ℕ) → i ≤ n → written_of d (s ++ t) i ≡ written_of d s i
    unfolding written_of
    written_early zero l = refl
    written_early (suc i) l = rw (written_early i (omega arith), ran_early i (omega arith), early (ran_of d s i).drive i (omega arith))

    -- the drive and the counts
    late_more : (m : ℕ) (r : Ran) → ran_of d (s ++ t) (n + m) ≡ joined r (ran_of r.drive t m) →
        ran_of d (s ++ t) (n + suc m) ≡ joined r (ran_of r.drive t (suc m))
    unfolding ran_of
    late_more m r e =
        let q = ran_of r.drive t m in
        rw (add-suc n m, e, late q.drive m) (joined_after r q (row_stepped q.drive t m))

    pub ran_in_pieces : (m : ℕ) → ran_of d (s ++ t) (n + m) ≡ joined (ran_of d s n) (ran_of (ran_of d s n).drive t m)
    unfolding ran_of
    ran_in_pieces zero = rw (add-zero n) (ran_early n (omega arith) ∙ joined_none (ran_of d s n) (number_0 d s n))
    ran_in_pieces (suc m) = late_more m (ran_of d s n) (ran_in_pieces m)

    -- the numbers written
    pub written_in_pieces : (m : ℕ) → written_of d (s ++ t) (n + m) ≡ written_of d s n ++ written_of (ran_of d s n).drive t m
    unfolding written_of
    written_in_pieces zero = rw (add-zero n) (written_early n (omega arith) ∙ sym (append-nil (written_of d s n)))
    written_in_pieces (suc m) =
        let q = ran_of (ran_of d s n).drive t m in
        rw (add-suc n m, written_in_pieces m, ran_in_pieces m, late q.drive m)
        (append_assoc (written_of d s n) (written_of (ran_of d s n).drive t m) (four (row_stepped q.drive t m)))

-- ════ the run
-- as many rows as are in both
pub both_rows : (s t : List ℤ) → length s ≡ 3 * rows_in s → rows_in (s ++ t) ≡ rows_in s + rows_in t
both_rows s t h = simp length-append (omega arith)

-- rows leave no broken record
pub still_unbroken : (d : Drive) (samples : List ℤ) (n : ℕ) → broken d ≡ false → broken (ran_of d samples n).drive ≡ false
still_unbroken d samples n b = (not_broken (ran_of d samples n).drive).1 (rows_sound d samples n ((not_broken d).0 b))

-- rows s with the output o, and then the rows t with p, are the run of both with any output that has room for both
pub run_in_pieces : (d : Drive) (s t o p out : List ℤ) → broken d ≡ false →
    rows_fit (length s) (length o) ≡ true → rows_fit (length t) (length p) ≡ true → rows_fit (length (s ++ t)) (length out) ≡ true →
    run_of d (s ++ t) out ≡ joined (run_of d s o) (run_of (run_of d s o).drive t p)
run_in_pieces d s t o p out b f g e =
    let n = rows_in s in
    let r1 = (run_0 d s o b f).0 in
    let r2 = (run_0 (ran_of d s n).drive t p (still_unbroken d s n b) g).0 in
    let r3 = (run_0 d (s ++ t) out b e).0 in
    let h = threes (length s) (length o) f in
    rw (r1, r2, r3, both_rows s t h) (ran_in_pieces s t n h d (rows_in t))
