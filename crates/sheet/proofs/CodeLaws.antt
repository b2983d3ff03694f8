-- What the code that reads and writes a line stands on: the key in front, the code's form of an entry, a line as it is written, and judged settings.
-- Assumes nothing.
use mathlib.Core.Path.{◌≡◌, refl, ap, sym, ◌∙◌}
use mathlib.Core.Bool.{Bool, true, false, ◌&&◌, true≢false, and-false}
use mathlib.Core.List.{List, [], ◌∷◌}
use mathlib.Core.Logic.{⊎_elim}
use Prim.Native.Nat.{ℕ, zero, suc, ◌+◌, ◌-◌, ◌≤◌, ◌<◌}
use native.Mathlib.Numerals.{add-one}
use native.Mathlib.Omega.{arith}
use borrow.Author.Tests.{leb-true, lt-ltb, le-ltb}
use lib.Dec.{eqb, leb}
use lib.ListN.{length, get_or, take, drop, length-take}
use lib.Seq.{length-take-le}
use Rattle.fixed.proofs.HeldLaws.{and_left, and_right}
use Rattle.fixed.proofs.Choice.{less_or_not}
use Rattle.settings.specs.declared.Settings.{Settings}
use Rattle.settings.specs.Settings.{accepted, refusal}
use Rattle.sheet.specs.declared.Unread.TheVariants.{Refused}
use Rattle.settings.specs.Words.{Entry, entries, entry_at, key, size as line_count}
use Rattle.names.specs.declared.Field.{Field}
use Rattle.names.specs.Names.{IsFieldOf}
use Rattle.std.specs.Cmp.Lexicographic.{pointwise}
use Rattle.std.proofs.lemmas.Bool.Decides.{nat_tests}
use Rattle.values.specs.Value.{top, before, behind, number_of}
use Rattle.sheet.proofs.SheetLaws.{first_top}
use Rattle.values.proofs.CodeLaws.{before_take, rest_part}
use Rattle.sheet.specs.Sheet.{starts, line_of, first_of, judged}
use Rattle.settings.specs.Settings.{checked}
use Rattle.settings.proofs.Ranges.{checked_is}
use Rattle.fixed.specs.Refusal.{reason, refuse}
use Rattle.std.specs.Prelude.{cond, Some, None, Result, Ok, Err, MatchResult, nat_eq}
use Rattle.std.specs.Result.{IsErrAnd}

-- ════ lines
-- the part of a key that counts
pub key_get : (n i : ℕ) (l : List ℕ) → i < n → get_or (take n l) i 0 ≡ get_or l i 0
key_get zero i l h = absurd (omega (arith, h))
key_get (suc n) i [] h = refl
key_get (suc n) zero (x ∷ l) h = refl
key_get (suc n) (suc i) (x ∷ l) h = key_get n i l (omega (arith, h))

pub starts_short : (ns s : List ℕ) → length s < length ns → false ≡ starts ns s
unfolding starts
starts_short [] s h = absurd (omega (arith, h))
starts_short (n ∷ ns) [] h = refl
starts_short (n ∷ ns) (c ∷ s) h = sym (and-false (eqb n c)) ∙ ap (λ (t : Bool). eqb n c && t) (starts_short ns s (omega (arith, h)))

-- and so a text that begins with them is as long
pub starts_long : (ns s : List ℕ) → starts ns s ≡ true → length ns ≤ length s
starts_long ns s t =
    ⊎_elim (λ h. absurd (true≢false (sym t ∙ sym (starts_short ns s h)))) (λ h. h) (less_or_not (length s) (length ns))

-- as the library compares the front of a text
pub starts_is : (ns s : List ℕ) → pointwise nat_eq (take (length ns) s) ns ≡ starts ns s
unfolding starts
starts_is [] s = refl
starts_is (n ∷ ns) [] = refl
starts_is (n ∷ ns) (c ∷ s) = rw (starts_is ns s) (ap (λ (t : Bool). t && starts ns s) (same c n))
  where
    same : (a b : ℕ) → eqb a b ≡ eqb b a
    same a b = grind (arith, nat_tests)

module _ {f : Field} {e : Entry} (is : IsFieldOf f e) (s : List ℕ) where
  pub line_good : {t : List ℕ} → pointwise nat_eq (take (length f.key.now) s) f.key.now ≡ true → t ≡ drop (length f.key.now) s
      → line_of e s ≡ number_of f.gain t
  unfolding line_of
  line_good h d = rw (d, is.gain, is.key, sym (starts_is (key e) s) ∙ rw is.key at h) refl

  pub line_other : pointwise nat_eq (take (length f.key.now) s) f.key.now ≡ false → line_of e s ≡ None
  unfolding line_of
  line_other h = rw (sym (starts_is (key e) s) ∙ rw is.key at h) refl

-- no name has more than five bytes
unfoldable pub short : List Entry → Bool
short [] = true
short (e ∷ es) = leb (length (key e)) 6 && short es

short_at : (es : List Entry) (d : Entry) (i : ℕ) → short es ≡ true → i < length es → length (key (get_or es i d)) ≤ 6
unfolding short
short_at [] d i t h = absurd (omega (arith, h))
short_at (e ∷ es) d zero t h = leb-true (length (key e)) 6 (and_left (leb (length (key e)) 6) (short es) t)
short_at (e ∷ es) d (suc i) t h = short_at es d i (and_right (leb (length (key e)) 6) (short es) t) (omega (arith, h))

pub own_short : short entries ≡ true
unfolding short entries
own_short = refl

pub key_short : (i : ℕ) → i < line_count → length (key (entry_at i)) ≤ 6
unfolding entries
key_short i h = short_at entries _ i own_short h

-- ════ the first line, of which n bytes stand in front of the line feed
pub before_most : (b : ℕ) (s : List ℕ) → length (before b s) ≤ length s
before_most b s = omega (arith, ap length (before_take b s), length-take (length (before b s)) s)

module _ (e : Entry) (s : List ℕ) (n : ℕ) (is : n ≡ length (before 10 s)) where
  pub first_none : n ≡ length s → first_of e s ≡ None
  unfolding first_of
  first_none h = rw (le-ltb (length (before 10 s)) (length s) (omega arith)) refl

  pub first_is : (n ≡ length s → ⊥) → first_of e s ≡ line_of e (take n s)
  unfolding first_of
  first_is h =
      let l : length (before 10 s) < length s = omega (arith, before_most 10 s, is, h) in
      rw (is, lt-ltb (length (before 10 s)) (length s) l, before_take 10 s) refl

  -- a word is small: the largest gain is below 100000, and so its 4096ths fit 32 bits
  pub word_small : {w : ℕ} → (n ≡ length s → ⊥) → line_of e (take n s) ≡ Some w → w < 409600000
  word_small {w} h f = omega (arith, first_top e s w (first_is h ∙ f), top_most e.gain)
    where
      top_most : (gain : Bool) → top gain ≤ 409600000
      top_most true = omega arith
      top_most false = omega arith

pub behind_is : (s : List ℕ) (n : ℕ) → n ≡ length (before 10 s) → take (length s - (n + 1)) (drop (n + 1) s) ≡ behind 10 s
behind_is s n e = rw (rest_part, e, add-one) refl

pub ruleset firsts = (before_most, length-take-le, first_none, first_is, word_small, behind_is)

-- ════ errors by another name
abbrev pub by_error : {A E D : Type 0} → (E → D) → Result A E → Result A D
by_error f (Ok x) = Ok x
by_error f (Err e) = Err (f e)

pub by_map_err : {A E D : Type 0} (f : E → D) (r : Result A E) (m : Result A D)
    → MatchResult r (λ x. m ≡ Ok x) (λ e. IsErrAnd m (λ d. d ≡ f e)) → m ≡ by_error f r
by_map_err f (Ok x) m h = h
by_map_err f (Err e) (Ok y) h = absurd h
by_map_err f (Err e) (Err d) h = ap Err h

pub by_ok : {A E D : Type 0} (f : E → D) (r : Result A E) {x : A} → by_error f r ≡ Ok x → r ≡ Ok x
by_ok f (Ok y) {x = x} h = let z : y ≡ x = cc in ap Ok z
by_ok f (Err e) h = cc

pub by_err : {A E D : Type 0} (f : E → D) (r : Result A E) {d : D} → by_error f r ≡ Err d → (e : E) × (r ≡ Err e) × (d ≡ f e)
by_err f (Ok y) h = cc
by_err f (Err e) h = (e, refl, cc)

pub judged_is : (s : Settings) → by_error Refused (checked s) ≡ judged s
unfolding judged
judged_is s = ap (by_error Refused) (checked_is s) ∙ by (accepted s)
  where
    by : (b : Bool) → by_error Refused (cond b (Ok s) (refuse (refusal s))) ≡ cond b (Ok s) (Err (Refused (reason (refusal s))))
    by true = refl
    by false = refl
