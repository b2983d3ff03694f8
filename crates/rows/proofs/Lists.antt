-- Four numbers stored or copied to a place, and what they leave of a list, for elements of any type.
-- Assumes nothing.
use mathlib.Core.Path.{◌≡◌, refl, ◌∙◌}
use mathlib.Core.List.{List, [], ◌∷◌, ◌++◌, append_assoc}
use Prim.Native.Nat.{ℕ, ◌+◌, ◌-◌, ◌≤◌}
use native.Mathlib.Numerals.{add-one, add-two, add-three}
use native.Mathlib.Omega.{arith}
use borrow.Rule.Slice.PartMut.{put_mid}
use lib.ListN.{length, take, drop, set, length-append, length-take, length-drop}
use lib.Seq.{take-append_seam, drop-append-add, drop-drop, sets-eq}

module _ {A : Type 0} (a b c e : A) where
  -- stored one after the other
  pub set_four : (l : List A) (i : ℕ) → i + 4 ≤ length l →
      set (set (set (set l i a) (i + 1) b) (i + 2) c) (i + 3) e ≡ take i l ++ (a ∷ b ∷ c ∷ e ∷ drop (i + 4) l)
  set_four l i h =
      let vs = a ∷ b ∷ c ∷ e ∷ [] in
      rw (add-one, add-two, add-three) (sets-eq vs l i h ∙ append_assoc (take i l) vs (drop (i + 4) l))

  -- put where four stood
  pub put_four : (l : List A) (i : ℕ) {now : List A} → now ≡ a ∷ b ∷ c ∷ e ∷ [] → i + 4 ≤ length l
      → (put_mid i (i + 4 - i) l now ≡ take i l ++ (a ∷ b ∷ c ∷ e ∷ drop (i + 4) l)) × (length (put_mid i (i + 4 - i) l now) ≡ length l)
  put_four l i {now} is h =
      let k : i + 4 - i ≡ 4 = omega arith in
      let put : put_mid i (i + 4 - i) l now ≡ take i l ++ (a ∷ b ∷ c ∷ e ∷ drop (i + 4) l) = rw (is, k, drop-drop) refl in
      (put, rw put (simp (length-append, length-take, length-drop) (omega arith)))

  -- the first k, as written, and of the rest, as it was, the next four
  pub next_four : (written o : List A) (k : ℕ) → length written ≡ k →
      take k (written ++ drop k o) ++ (a ∷ b ∷ c ∷ e ∷ drop (k + 4) (written ++ drop k o)) ≡ (written ++ (a ∷ b ∷ c ∷ e ∷ [])) ++ drop (k + 4) o
  next_four written o k h = rw (← h, take-append_seam, drop-append-add, drop-drop) (simp append_assoc)
