-- A line that was read is good exactly when the grammar says so, and has the grammar's numbers (`line_told`).
-- Assumes nothing.
use mathlib.Core.Path.{◌≡◌, refl, sym, ◌∙◌}
use mathlib.Core.Bool.{Bool, true, cond}
use mathlib.Core.List.{List}
use mathlib.Core.Option.{Option, none, some}
use Prim.Native.Nat.{ℕ, ◌≤◌, ◌<◌}
use native.Mathlib.Omega.{arith}
use lib.IntN.{ℤ}
use lib.ListN.{length}
use Rattle.text.specs.Grammar.{line_of}
use Rattle.text.specs.Automaton.{Reading, line_read}
use Rattle.text.proofs.Lines.{Taken, accepted, refused, too_many, first_numbers}
use Rattle.fixed.proofs.Choice.{by_test, by_order}
use Rattle.feeding.specs.Lines.{if_fits, good_in}
use Rattle.feeding.specs.Feeding.{front, is_good}

-- there is room among n numbers for all that fit
abbrev pub Room : (List ℤ → Bool) → ℕ → Type 0
Room fits n = (zs : List ℤ) → fits zs ≡ true → length zs ≤ n

module _ (fits : List ℤ → Bool) where
  -- what a reading tells
  abbrev pub told : Reading → Option (List ℤ)
  told r = cond (is_good fits r) (some (front r)) none

  told_bad : (r : Reading) → r.line.bad ≡ true → told r ≡ none
  unfolding is_good
  told_bad r e = rw e refl

  told_taken : (ns zs : List ℤ) (r : Reading) → Taken ns zs r → told r ≡ if_fits fits (some zs)
  unfolding is_good if_fits
  told_taken ns zs r t = rw (t.good, first_numbers t) refl

  told_long : (zs : List ℤ) (n : ℕ) → Room fits n → n < length zs → if_fits fits (some zs) ≡ none
  unfolding if_fits
  told_long zs n room h = by_test (fits zs) (λ e. absurd (omega (arith, room zs e, h))) (λ e. rw e refl)

  pub line_told : (bs : List ℕ) (ns : List ℤ) → Room fits (length ns) → told (line_read ns bs) ≡ good_in fits bs
  unfolding good_in if_fits
  line_told bs ns room = by (line_of bs) refl
    where
      by : (o : Option (List ℤ)) → line_of bs ≡ o → told (line_read ns bs) ≡ if_fits fits o
      by none e = told_bad (line_read ns bs) (refused bs ns e)
      by (some zs) e =
          by_order (length ns) (length zs)
          (λ l. told_bad (line_read ns bs) (too_many bs ns zs e l) ∙ sym (told_long zs (length ns) room l))
          (λ l. told_taken ns zs (line_read ns bs) (accepted bs ns zs e l))
