-- Reading goes through the sheet line by line.
-- Assumes nothing.
use mathlib.Core.Path.{◌≡◌, refl, ap, sym, ◌∙◌}
use mathlib.Core.List.{List, [], ◌∷◌, ◌++◌, append_assoc, append-nil}
use Prim.Native.Nat.{ℕ, ◌+◌, ◌^◌, ◌<◌}
use native.Mathlib.Numerals.{add-one}
use native.Mathlib.Omega.{arith}
use borrow.Author.Tests.{lt-ltb}
use lib.IntN.{ℤ, pos}
use mir.Syntax.{w32}
use mir.Val.{to_z}
use lib.ListN.{length, take, drop, set, replicate, length-set, drop_of_length-le}
use lib.Seq.{drop-cons, take-suc-set, take_all}
use Rattle.settings.specs.Words.{entries, no_entry, entry_at, size as line_count, settings_of}
use Rattle.values.specs.Value.{behind as after}
use Rattle.sheet.specs.Sheet.{first_of, Words, words, faulty, and_then, with_first, read_lines, settings_in, lines_of}
use Rattle.sheet.proofs.SheetLaws.{count_entries}
use Rattle.std.specs.Prelude.{Option, Some, None, Ok, Err}

-- words in front of what is read further
unfoldable pub in_front : List ℤ → Words → Words
in_front zs (words more) = words (zs ++ more)
in_front zs (faulty i) = faulty i

front_more : (zs : List ℤ) (w : ℕ) (ls : Words) → in_front zs (and_then w ls) ≡ in_front (zs ++ (pos w ∷ [])) ls
unfolding in_front and_then
front_more zs w (words more) = ap words (sym (append_assoc zs (pos w ∷ []) more))
front_more zs w (faulty i) = refl

front_none : (ls : Words) → ls ≡ in_front [] ls
unfolding in_front
front_none (words zs) = refl
front_none (faulty i) = refl

-- what stands once i lines are read, with rest behind them: their words, and what the others make
pub record Walking (text : List ℕ) (zs : List ℤ) (rest : List ℕ) (i : ℕ) : Type 0 where
  pub long : length zs ≡ line_count
  pub same : read_lines 1 entries text ≡ in_front (take i zs) (read_lines (i + 1) (drop i entries) rest)

pub walking_start : (text : List ℕ) → Walking text (replicate line_count (pos 0)) text 0
walking_start text = record { long = refl; same = front_none (read_lines 1 entries text) }

module _ {text : List ℕ} {zs : List ℤ} {rest : List ℕ} {i : ℕ} (s : Walking text zs rest i) where
  -- the next line
  next : i < line_count → read_lines (i + 1) (drop i entries) rest
      ≡ with_first (i + 1) (first_of (entry_at i) rest) (read_lines (i + 1 + 1) (drop (i + 1) entries) (after 10 rest))
  unfolding read_lines
  next h = rw (drop-cons entries i no_entry (omega (arith, count_entries)), add-one i) refl

  pub walking_more : {w : ℕ} {behind : List ℕ} → i < line_count → first_of (entry_at i) rest ≡ Some w → w < 2 ^ 31 → behind ≡ after 10 rest
      → Walking text (set zs i (to_z w32 w)) behind (i + 1)
  unfolding with_first
  walking_more {w} h e l b =
      let more = read_lines (i + 1 + 1) (drop (i + 1) entries) (after 10 rest) in
      rw (b, lt-ltb w (2 ^ 31) l) record {
        long = length-set zs i (pos w) ∙ s.long;
        same =
            s.same
            ∙ ap (in_front (take i zs)) (next h ∙ ap (λ (x : Option ℕ). with_first (i + 1) x more) e)
            ∙ front_more (take i zs) w more
            ∙ ap (λ (xs : List ℤ). in_front xs more)
            (sym (take-suc-set zs i (pos w) (omega (arith, s.long))) ∙ ap (λ (k : ℕ). take k (set zs i (pos w))) (sym (add-one i)));
      }

  -- a faulty line
  pub walking_wrong : i < line_count → first_of (entry_at i) rest ≡ None → lines_of text ≡ Err (i + 1)
  unfolding lines_of settings_in with_first in_front
  walking_wrong h e = rw (s.same, next h, e) refl

  -- bytes behind the last line
  pub walking_over : i ≡ line_count → (length rest ≡ 0 → ⊥) → lines_of text ≡ Err (line_count + 1)
  unfolding lines_of settings_in in_front read_lines entries
  walking_over h l = rw (s.same, h, drop-cons rest 0 0 (omega (arith, l))) refl

  -- none
  pub walking_end : i ≡ line_count → length rest ≡ 0 → lines_of text ≡ Ok (settings_of zs)
  unfolding lines_of settings_in in_front read_lines entries
  walking_end h l =
      rw (s.same, h, drop_of_length-le rest {i = 0} (omega (arith, l)))
      (ap (λ (xs : List ℤ). Ok (settings_of xs)) (append-nil (take line_count zs) ∙ take_all line_count zs (omega (arith, s.long))))

pub ruleset walks = (walking_start, walking_more, walking_wrong, walking_over, walking_end)
