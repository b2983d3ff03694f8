-- Laws of a line's text: a number more, and the whole of it.
-- Assumes nothing.
use mathlib.Core.Path.{◌≡◌, refl}
use mathlib.Core.List.{List, [], ◌∷◌, ◌++◌, append_assoc, append-nil}
use Prim.Native.Nat.{ℕ, ◌+◌, ◌-◌, ◌≤◌, ◌<◌}
use native.Mathlib.Numerals.{add-one, sub-one}
use native.Mathlib.Omega.{arith}
use lib.IntN.{ℤ, pos}
use lib.ListN.{length, get_or, take, drop}
use lib.Seq.{take-suc, take_all}
use mir.Syntax.{w32}
use mir.Val.{SFits}
use Rattle.writing.specs.Decimal.{text_of, more_text, numbers_text, line_text}

-- numbers that fit 32 bits, every one
pub data AllFit : List ℤ → Type 0 where
  nil : AllFit []
  cons : {z : ℤ} {zs : List ℤ} → SFits w32 z → AllFit zs → AllFit (z ∷ zs)

-- ════ a number more
more_more : (zs : List ℤ) (z : ℤ) → more_text (zs ++ (z ∷ [])) ≡ more_text zs ++ (32 ∷ text_of z)
unfolding more_text
more_more [] z = simp append-nil
more_more (y ∷ zs) z = rw (more_more zs z) (simp append_assoc)

pub more_next : (ns : List ℤ) (i : ℕ) → i < length ns → more_text (take (i + 1) ns) ≡ more_text (take i ns) ++ (32 ∷ text_of (get_or ns i (pos 0)))
more_next ns i h = rw (add-one, take-suc ns i (pos 0), more_more) refl

-- the first number, all that follow it, and the line feed
pub line_is : (ns : List ℤ) (i : ℕ) → 1 ≤ length ns → length (take (length ns - 1) (drop 1 ns)) ≤ i
    → line_text ns ≡ (text_of (get_or ns 0 (pos 0)) ++ more_text (take i (take (length ns - 1) (drop 1 ns)))) ++ (10 ∷ [])
unfolding line_text numbers_text
line_is [] i h l = absurd (omega (arith, h))
line_is (z ∷ zs) i h l = let m = rw sub-one at l in rw (sub-one, take_all i (take (length zs) zs) m, take_all (length zs) zs (omega arith)) refl
