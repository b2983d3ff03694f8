-- Laws of `written`, and digits that are spelt from the last one up.
-- Assumes nothing.
use mathlib.Core.Path.{◌≡◌, refl, sym}
use mathlib.Core.List.{List, [], ◌∷◌, ◌++◌, append_assoc, append-nil}
use Prim.Native.Nat.{ℕ, zero, suc, ◌+◌, ◌-◌, ◌/◌, ◌≤◌, ◌<◌}
use native.Mathlib.Numerals.{add-one, sub-one}
use native.Mathlib.Omega.{arith}
use lib.ListN.{length, take, drop, set, length-append, length-take, length-drop, take-append-drop}
use Rattle.std.proofs.lemmas.List.{drop-set}
use lib.Seq.{drop-length, set_split, drop_at, take_at, drop-drop}
use Rattle.writing.specs.Decimal.{digit_of, last_digits, count_text, written}
use Rattle.writing.proofs.DecimalLaws.{count_is_last}

-- ════ of `written`
pub written_one : (o : List ℕ) (at b : ℕ) → at + 1 ≤ length o → set o at b ≡ written o at (b ∷ [])
unfolding written
written_one o at b h = rw (set_split o at b (omega arith), ← add-one at) refl

pub written_none : (o : List ℕ) (at : ℕ) → o ≡ written o at []
unfolding written
written_none o at =
    let e : at + 0 ≡ at = omega arith in
    rw e (sym (take-append-drop at o))

pub written_length : (o bs : List ℕ) (at : ℕ) → at + length bs ≤ length o → length (written o at bs) ≡ length o
unfolding written
written_length o bs at h = simp (length-append, length-take, length-drop) (omega arith)

-- one text, and the next behind it
pub written_then : (o xs ys : List ℕ) (at : ℕ) → at + length xs + length ys ≤ length o → written (written o at xs) (at + length xs) ys ≡ written o at (xs ++ ys)
unfolding written
written_then o xs ys at h =
    let m = at + length xs in
    let n : length (take at o ++ xs) ≡ m = simp (length-append, length-take) (omega arith) in
    let e : at + length (xs ++ ys) ≡ m + length ys = simp length-append (omega arith) in
    let p = take at o ++ xs in
    rw (e, ← append_assoc (take at o) xs (drop m o), take_at p (drop m o) m n, ← drop-drop (length ys) m (p ++ drop m o), drop_at p (drop m o) m n, drop-drop)
    (simp append_assoc)

-- ════ spelling
pub spelt_start : (n : ℕ) (out : List ℕ) → length out ≡ length (count_text n) → last_digits (length out) n ++ drop (length out) out ≡ count_text n
spelt_start n out e = rw (drop-length, append-nil, e) (count_is_last n)

-- a digit in front of those that stand, which ends the digits that are left
pub spelt_more : (i rest : ℕ) (out : List ℕ) → 0 < i → i ≤ length out
    → last_digits (i - 1) (rest / 10) ++ drop (i - 1) (set out (i - 1) (digit_of rest)) ≡ last_digits i rest ++ drop i out
unfolding last_digits
spelt_more zero rest out h l = absurd (omega (arith, h))
spelt_more (suc j) rest out h l = rw (sub-one, drop-set out j (digit_of rest), add-one) (simp append_assoc)
