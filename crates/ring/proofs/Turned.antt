-- A ring as a list: from its next place on, once round, its newest is the last. So a row that is stored comes last and the oldest of 128 is gone, and no
-- remainder by 128 is taken anywhere.
-- Assumes nothing.
use mathlib.Core.Path.{◌≡◌, refl, sym, ◌∙◌, ap}
use mathlib.Core.List.{List, [], ◌∷◌, ◌++◌, append_assoc, append-nil, map}
use Prim.Native.Nat.{ℕ, suc, ◌+◌, ◌-◌, ◌≤◌, ◌<◌, min}
use native.Mathlib.Nat.{min-eq_left, min-eq_right}
use native.Mathlib.Omega.{arith}
use borrow.Author.Tests.{ltb-true, ltb-false}
use lib.Dec.{ltb}
use lib.ListN.{length, get_or, set, take, drop, length-append, length-take, length-drop, length-set, length-map, drop_of_length-le}
use lib.ListN.{get_or-append, get_or-map}
use lib.Seq.{get_or-drop, get_or-take, get_or-append-add, drop-append-le, take_all, drop-set-lt, take-suc-set, drop-drop}
use Rattle.fixed.proofs.Choice.{choose, by_order}
use Rattle.ring.specs.Ring.{place_after, one_more, turned, oldest_first, last128, place_of_row}

-- ════ numbers
most : (n : ℕ) → n - (n - 128) ≡ min n 128
most n = by_order n 128 (λ h. let k : n ≤ 128 = omega arith in rw (min-eq_left k) (omega arith)) (λ h. rw (min-eq_right h) (omega arith))

-- how many are left out of 129, the row among them
oldest : (real : ℕ) → real ≤ 128 → 1 + (128 - one_more real) ≡ 128 - real + (129 - (128 - real) - 128)
unfolding one_more
oldest real r =
    choose (λ (n : ℕ). 1 + (128 - n) ≡ 128 - real + (129 - (128 - real) - 128)) (ltb real 128) (real + 1) 128
    (λ e. omega (arith, ltb-true real 128 e)) (λ e. omega (arith, ltb-false real 128 e))

module _ {A : Type 0} where
  -- ════ lengths
  turned_long : (at : ℕ) (xs : List A) → length xs ≡ 128 → at < 128 → length (turned at xs) ≡ 128
  turned_long at xs len a =
      let h : at ≤ 128 = omega arith in
      simp (length-append, length-drop, length-take, len, min-eq_left h) (omega arith)

  -- so many are read as there are real rows
  pub read_long : (at real : ℕ) (xs : List A) → length xs ≡ 128 → at < 128 → real ≤ 128 → length (oldest_first at real xs) ≡ real
  unfolding oldest_first
  read_long at real xs len a r = length-drop (128 - real) (turned at xs) ∙ rw (turned_long at xs len a) (omega arith)

  pub last128_long : (ys : List A) → length (last128 ys) ≡ min (length ys) 128
  unfolding last128
  last128_long ys = length-drop (length ys - 128) ys ∙ most (length ys)

  -- ════ what is read at i stands where the code looks
  pub stands : (xs : List A) (at real i : ℕ) (d : A) → length xs ≡ 128 → at < 128 → real ≤ 128 → i < real →
      get_or (oldest_first at real xs) i d ≡ get_or xs (place_of_row at real i) d
  unfolding oldest_first place_of_row
  stands xs at real i d len a r l =
      let skip = 128 - real in
      let on = at + skip + i in
      get_or-drop skip (turned at xs) i d
      ∙ choose (λ (p : ℕ). get_or (turned at xs) (skip + i) d ≡ get_or xs p d) (ltb on 128) on (on - 128)
      (λ e.
      let h : on < 128 = ltb-true on 128 e in
      let k : skip + i < length (drop at xs) = simp (length-drop, len) (omega arith) in
      let same : at + (skip + i) ≡ on = omega arith in
      get_or-append (drop at xs) (take at xs) d (skip + i) k ∙ get_or-drop at xs (skip + i) d ∙ ap (λ (p : ℕ). get_or xs p d) same)
      (λ e.
      let h : 128 ≤ on = ltb-false on 128 e in
      let k : on - 128 < at = omega arith in
      let same : skip + i ≡ length (drop at xs) + (on - 128) = simp (length-drop, len) (omega arith) in
      ap (λ (p : ℕ). get_or (turned at xs) p d) same ∙ get_or-append-add (drop at xs) (take at xs) (on - 128) d ∙ get_or-take at xs (on - 128) d k)

  -- ════ one row more
  -- at the end of the ring one may as well go on to 128
  past_end : (at : ℕ) (xs : List A) → length xs ≡ 128 → at < 128 → turned (place_after at) xs ≡ turned (suc at) xs
  unfolding place_after
  past_end at xs len a =
      choose (λ (p : ℕ). turned p xs ≡ turned (suc at) xs) (ltb at 127) (at + 1) 0
      (λ e. let one : at + 1 ≡ suc at = omega arith in rw one refl)
      (λ e.
      let h : length xs ≤ suc at = omega (arith, ltb-false at 127 e) in
      append-nil xs ∙ rw (drop_of_length-le xs {i = suc at} h, take_all (suc at) xs h) refl)

  -- the row comes last, and the first is gone
  put_last : (xs : List A) (at : ℕ) (y : A) → length xs ≡ 128 → at < 128 →
      turned (place_after at) (set xs at y) ≡ drop 1 (turned at xs ++ (y ∷ []))
  put_last xs at y len a =
      let inside : at < length xs = omega arith in
      let short : 1 ≤ length (drop at xs) = simp (length-drop, len) (omega arith) in
      let one : at + 1 ≡ suc at = omega arith in
      let there : turned (suc at) (set xs at y) ≡ drop (suc at) xs ++ (take at xs ++ (y ∷ [])) =
      rw (drop-set-lt (suc at) xs at y (omega arith), take-suc-set xs at y inside) refl in
      let here : drop 1 (turned at xs ++ (y ∷ [])) ≡ drop (suc at) xs ++ (take at xs ++ (y ∷ [])) =
      ap (drop 1) (append_assoc (drop at xs) (take at xs) (y ∷ []))
      ∙ drop-append-le 1 (drop at xs) (take at xs ++ (y ∷ [])) short
      ∙ ap (λ (l : List A). l ++ (take at xs ++ (y ∷ []))) (drop-drop 1 at xs ∙ ap (λ (k : ℕ). drop k xs) one) in
      past_end at (set xs at y) (length-set xs at y ∙ len) a ∙ there ∙ sym here

  -- the last 128 of a list whose first k are left out
  last128_drop : (k : ℕ) (ys : List A) → last128 (drop k ys) ≡ drop (k + (length ys - k - 128)) ys
  unfolding last128
  last128_drop k ys = rw (length-drop k ys) (drop-drop (length ys - k - 128) k ys)

  -- what is read after it is what was read and the row, less the oldest of more than 128
  pub pushed : (xs : List A) (at real : ℕ) (y : A) → length xs ≡ 128 → at < 128 → real ≤ 128 →
      oldest_first (place_after at) (one_more real) (set xs at y) ≡ last128 (oldest_first at real xs ++ (y ∷ []))
  unfolding oldest_first
  pushed xs at real y len a r =
      let round = turned at xs in
      let all = round ++ (y ∷ []) in
      let fits : 128 - real ≤ length round = rw (turned_long at xs len a) (omega arith) in
      let long : length all ≡ 129 = length-append round (y ∷ []) ∙ rw (turned_long at xs len a) refl in
      ap (drop (128 - one_more real)) (put_last xs at y len a)
      ∙ drop-drop (128 - one_more real) 1 all
      ∙ ap (λ (k : ℕ). drop k all) (oldest real r ∙ ap (λ (n : ℕ). 128 - real + (n - (128 - real) - 128)) (sym long))
      ∙ sym (last128_drop (128 - real) all)
      ∙ ap last128 (drop-append-le (128 - real) round (y ∷ []) fits)

  -- of the last 128 and one more, the last 128 are those of all
  pub last128_again : (ys : List A) (y : A) → last128 (last128 ys ++ (y ∷ [])) ≡ last128 (ys ++ (y ∷ []))
  unfolding last128
  last128_again ys y =
      let n = length ys in
      let all = ys ++ (y ∷ []) in
      let long : length all ≡ n + 1 = length-append ys (y ∷ []) in
      let first : n - 128 + (length all - (n - 128) - 128) ≡ length all - 128 = rw long (omega arith) in
      ap last128 (sym (drop-append-le (n - 128) ys (y ∷ []) (omega arith)))
      ∙ last128_drop (n - 128) all
      ∙ ap (λ (k : ℕ). drop k all) first

  -- a list of 128 at most is its own last 128
  pub last128_all : (ys : List A) → length ys ≤ 128 → last128 ys ≡ ys
  unfolding last128
  last128_all ys h = let none : length ys - 128 ≡ 0 = omega arith in rw none refl

-- a word of one of the last 128 rows
pub last128_at : {A B : Type 0} (f : A → B) (ys : List A) (i : ℕ) (d : A) → get_or (last128 (map f ys)) i (f d) ≡ f (get_or (last128 ys) i d)
unfolding last128
last128_at f ys i d =
    let k = length ys - 128 in
    rw (length-map ys f)
    (get_or-drop k (map f ys) i (f d) ∙ get_or-map f ys (k + i) d ∙ ap f (sym (get_or-drop k ys i d)))
