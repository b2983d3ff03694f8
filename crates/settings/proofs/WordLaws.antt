-- Settings and their words: each undoes the other.
-- Assumes nothing.
use mathlib.Core.Path.{◌≡◌, refl, ap}
use mathlib.Core.List.{List, [], ◌∷◌, ◌++◌}
use Prim.Native.Nat.{ℕ, zero, suc, ◌+◌, ◌≤◌, ◌<◌}
use native.Mathlib.Nat.{not-suc-le-zero, le_of_suc-le-suc}
use native.Mathlib.Omega.{arith}
use lib.IntN.{ℤ, pos}
use lib.ListN.{length, get_or, take, drop}
use Rattle.settings.specs.declared.Settings.{Settings}
use Rattle.settings.specs.Words.{size, words_of, settings_of}

-- of the words, with whatever follows them, the settings
pub words_settings : (s : Settings) (rest : List ℤ) → settings_of (words_of s ++ rest) ≡ s
unfolding settings_of words_of
words_settings s rest = refl

-- of the settings, the words that the list begins with
abbrev from : ℕ → ℕ → List ℤ → List ℤ
from i zero l = []
from i (suc n) l = get_or l i (pos 0) ∷ from (suc i) n l

first : (l : List ℤ) (i : ℕ) → i < length l → drop i l ≡ get_or l i (pos 0) ∷ drop (suc i) l
first [] i h = absurd (not-suc-le-zero h)
first (x ∷ l) zero h = refl
first (x ∷ l) (suc i) h = first l i (le_of_suc-le-suc h)

from_is : (n i : ℕ) (l : List ℤ) → i + n ≤ length l → from i n l ≡ take n (drop i l)
from_is zero i l h = refl
from_is (suc n) i l h = rw (first l i (omega arith)) (ap (λ (r : List ℤ). get_or l i (pos 0) ∷ r) (from_is n (suc i) l (omega arith)))

pub settings_words : (l : List ℤ) → size ≤ length l → words_of (settings_of l) ≡ take size l
unfolding settings_of words_of
settings_words l h = from_is size 0 l h
