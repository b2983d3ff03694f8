-- One row: where it stands in the rings, and what is read once it is put in. A ring is taken by itself (crates/ring), and what holds of the six holds of the
-- rows.
-- Assumes nothing.
use mathlib.Core.Path.{◌≡◌, refl, sym, ◌∙◌, ap}
use mathlib.Core.List.{List, [], ◌∷◌, ◌++◌, map, map-append}
use Prim.Native.Nat.{ℕ, zero, suc, ◌+◌, ◌≤◌, ◌<◌, min}
use native.Mathlib.Nat.{min-eq_left, min-eq_right}
use native.Mathlib.Omega.{arith}
use borrow.Author.Tests.{lt-ltb, le-ltb}
use lib.IntN.{ℤ, pos, negsuc}
use lib.ListN.{length, get_or, set, length-append, length-set, length-map, length-replicate, get_or-map}
use lib.Seq.{ext_get_or}
use Rattle.std.specs.Option.{option_map}
use Rattle.fixed.proofs.Choice.{by_order}
use Rattle.ring.specs.Ring.{place_after, one_more, oldest_first, last128, place_of_row, place_at, row_place}
use Rattle.ring.proofs.Places.{place_below, rows_most, place_again, rows_again}
use Rattle.ring.proofs.Turned.{read_long, last128_long, stands, pushed, last128_at}
use Rattle.moments.specs.declared.Row.{Row}
use Rattle.moments.specs.declared.Moments.{Moments}
use Rattle.moments.specs.Moments.{none, place_of, real_rows, put, row_at, no_row, moment_at, row_in, found_of}
use Rattle.moments.specs.Recordings.{read_from, read_all, Rings}

-- ════ where a row stands
module _ (m : Moments) (h : Rings m) where
  pub row_stands : (i : ℕ) → i < real_rows m → row_at m i ≡ row_in m (place_of_row (place_of m) (real_rows m) i)
  unfolding row_at row_in
  row_stands i l =
      let at = place_below m.next m.real in
      let most = rows_most m.next m.real in
      simp (
        stands m.ia (place_of m) (real_rows m) i (pos 0) h.ia at most l,
        stands m.ib (place_of m) (real_rows m) i (pos 0) h.ib at most l,
        stands m.speed (place_of m) (real_rows m) i (pos 0) h.speed at most l,
        stands m.a (place_of m) (real_rows m) i (pos 0) h.a at most l,
        stands m.b (place_of m) (real_rows m) i (pos 0) h.b at most l,
        stands m.c (place_of m) (real_rows m) i (pos 0) h.c at most l,
      )

  -- what is read at any number is what the code finds
  pub moment_stands : (i : ℤ) → moment_at m i ≡ found_of (option_map (row_in m) (row_place m.next m.real i))
  unfolding moment_at row_place place_at found_of
  moment_stands (pos i) = by_order i (real_rows m) (λ l. rw (lt-ltb i (real_rows m) l, row_stands i l) refl) (λ l. rw (le-ltb i (real_rows m) l) refl)
  moment_stands (negsuc i) = refl

-- ════ the rows that are read
module _ (m : Moments) where
  from_long : (i n : ℕ) → length (read_from m i n) ≡ n
  unfolding read_from
  from_long i zero = refl
  from_long i (suc n) = ap suc (from_long (suc i) n)

  from_at : (i n j : ℕ) → j < n → get_or (read_from m i n) j no_row ≡ row_at m (i + j)
  unfolding read_from
  from_at i zero j l = absurd (nothing j l)
    where
      nothing : (j : ℕ) → j < 0 → ⊥
      nothing j l = omega arith
  from_at i (suc n) zero l = let here : i ≡ i + 0 = omega arith in ap (row_at m) here
  from_at i (suc n) (suc j) l =
      let next : suc i + j ≡ i + suc j = omega arith in
      from_at (suc i) n j (omega arith) ∙ ap (row_at m) next

  -- so many as are real, each where it is
  pub read_rows : length (read_all m) ≡ real_rows m
  read_rows = from_long 0 (real_rows m)

  pub read_at : (i : ℕ) → i < real_rows m → get_or (read_all m) i no_row ≡ row_at m i
  read_at i l = let first : 0 + i ≡ i = omega arith in from_at 0 (real_rows m) i l ∙ ap (row_at m) first

-- ════ one ring of the six, as the words f of the rows
module _ (m : Moments) (f : Row → ℤ) (xs : List ℤ) (long : length xs ≡ 128) (none_is : f no_row ≡ pos 0)
    (word : (i : ℕ) → f (row_at m i) ≡ get_or (oldest_first (place_of m) (real_rows m) xs) i (pos 0)) where
  abbrev ring : List ℤ
  ring = oldest_first (place_of m) (real_rows m) xs

  column : map f (read_all m) ≡ ring
  column =
      let whole : length ring ≡ real_rows m = read_long (place_of m) (real_rows m) xs long (place_below m.next m.real) (rows_most m.next m.real) in
      let many : length (map f (read_all m)) ≡ real_rows m = length-map (read_all m) f ∙ read_rows m in
      ext_get_or (pos 0) (map f (read_all m)) ring (many ∙ sym whole)
      (λ i l.
      let inside : i < real_rows m = omega arith in
      ap (get_or (map f (read_all m)) i) (sym none_is) ∙ get_or-map f (read_all m) i no_row ∙ ap f (read_at m i inside) ∙ word i)

  -- and with a row put in
  column_put : (r : Row) (i : ℕ) →
      get_or (oldest_first (place_after (place_of m)) (one_more (real_rows m)) (set xs (place_of m) (f r))) i (pos 0)
      ≡ f (get_or (last128 (read_all m ++ (r ∷ []))) i no_row)
  column_put r i =
      let all = read_all m ++ (r ∷ []) in
      let after : oldest_first (place_after (place_of m)) (one_more (real_rows m)) (set xs (place_of m) (f r)) ≡ last128 (map f all) =
      pushed xs (place_of m) (real_rows m) (f r) long (place_below m.next m.real) (rows_most m.next m.real)
      ∙ ap (λ (l : List ℤ). last128 (l ++ (f r ∷ []))) (sym column)
      ∙ ap last128 (sym (map-append f (read_all m) (r ∷ []))) in
      ap (λ (l : List ℤ). get_or l i (pos 0)) after ∙ ap (get_or (last128 (map f all)) i) (sym none_is) ∙ last128_at f all i no_row

-- ════ a row put in comes last, and the oldest of more than 128 is gone
one_more_lem : (n : ℕ) → n ≤ 128 → one_more n ≡ min (n + 1) 128
unfolding one_more
one_more_lem n h =
    by_order n 128 (λ l. let k : n + 1 ≤ 128 = omega arith in rw (lt-ltb n 128 l, min-eq_left k) refl)
    (λ l. let k : 128 ≤ n + 1 = omega arith in rw (le-ltb n 128 l, min-eq_right k) refl)

module _ (m : Moments) (h : Rings m) (r : Row) where
  pub put_rings : Rings (put m r)
  unfolding put
  put_rings = record {
    ia = length-set m.ia (place_of m) r.ia ∙ h.ia;
    ib = length-set m.ib (place_of m) r.ib ∙ h.ib;
    speed = length-set m.speed (place_of m) r.speed ∙ h.speed;
    a = length-set m.a (place_of m) r.a ∙ h.a;
    b = length-set m.b (place_of m) r.b ∙ h.b;
    c = length-set m.c (place_of m) r.c ∙ h.c;
  }

  put_rows : real_rows (put m r) ≡ one_more (real_rows m)
  unfolding put
  put_rows = rows_again (place_of m) (real_rows m)

  put_at : (i : ℕ) → row_at (put m r) i ≡ get_or (last128 (read_all m ++ (r ∷ []))) i no_row
  unfolding put row_at
  put_at i =
      rw (place_again (place_of m) (real_rows m), rows_again (place_of m) (real_rows m))
      (simp (
        column_put m (λ (x : Row). x.ia) m.ia h.ia refl (λ j. refl) r i,
        column_put m (λ (x : Row). x.ib) m.ib h.ib refl (λ j. refl) r i,
        column_put m (λ (x : Row). x.speed) m.speed h.speed refl (λ j. refl) r i,
        column_put m (λ (x : Row). x.a) m.a h.a refl (λ j. refl) r i,
        column_put m (λ (x : Row). x.b) m.b h.b refl (λ j. refl) r i,
        column_put m (λ (x : Row). x.c) m.c h.c refl (λ j. refl) r i,
      ))

  pub put_read : read_all (put m r) ≡ last128 (read_all m ++ (r ∷ []))
  put_read =
      let n = real_rows m in
      let all = read_all m ++ (r ∷ []) in
      let before : length all ≡ n + 1 = length-append (read_all m) (r ∷ []) ∙ ap (λ (k : ℕ). k + 1) (read_rows m) in
      let many : length (read_all (put m r)) ≡ length (last128 all) =
      read_rows (put m r) ∙ put_rows ∙ one_more_lem n (rows_most m.next m.real) ∙ sym (last128_long all ∙ ap (λ (k : ℕ). min k 128) before) in
      ext_get_or no_row (read_all (put m r)) (last128 all) many (λ i l. read_at (put m r) i (rw (read_rows (put m r)) at l) ∙ put_at i)

-- ════ an empty record
pub none_rings : Rings none
unfolding none
none_rings =
    let z = length-replicate 128 (pos 0) in
    record { ia = z; ib = z; speed = z; a = z; b = z; c = z }
