-- Which line is the first faulty one is settled by the first 500 bytes: a good line has 25 at most.
-- Assumes nothing.
use mathlib.Core.Path.{◌≡◌, refl, ap, sym, ◌∙◌}
use mathlib.Core.Bool.{Bool, true, false}
use mathlib.Core.List.{List, [], ◌∷◌, ◌++◌, append_assoc}
use Prim.Native.Nat.{ℕ, zero, suc, ◌+◌, ◌-◌, ◌*◌, ◌/◌, ◌%◌, ◌≤◌, ◌<◌}
use native.Mathlib.Omega.{arith}
use borrow.Author.Tests.{leb-true}
use lib.Dec.{leb}
use lib.ListN.{length, take, drop, length-append, take-append-drop}
use Rattle.fixed.proofs.HeldLaws.{and_left, and_right}
use Rattle.settings.specs.Words.{Entry, entries, key}
use Rattle.writing.specs.Decimal.{count_text}
use Rattle.writing.proofs.DecimalLaws.{decimal_length}
use Rattle.values.specs.Value.{top, behind, gain_text, value_text}
use Rattle.sheet.specs.Sheet.{line_text, first_of, Words, with_first, read_lines, settings_in, lines_of, outcome, read_sheet}
use Rattle.values.proofs.ValueLaws.{free}
use Rattle.sheet.proofs.SheetLaws.{plain, first_back, rest_back, first_only, first_top, no_feeds, count_entries}
use Rattle.values.proofs.Putting.{fraction_length}
use Rattle.sheet.proofs.CodeLaws.{short, own_short}
use Rattle.std.proofs.lemmas.Option.{none-some}
use Rattle.std.specs.Prelude.{Option, Some, None}

value_long : (gain : Bool) (w : ℕ) → w < top gain → length (value_text gain w) ≤ 18
unfolding value_text gain_text count_text
value_long true w h = simp length-append (omega (arith, decimal_length 19 4 (w / 4096) (omega arith), fraction_length (w % 4096)))
value_long false w h = omega (arith, decimal_length 19 4 w (omega arith))

line_long : (e : Entry) (w : ℕ) → w < top e.gain → length (key e) ≤ 6 → length (line_text e w) ≤ 25
unfolding line_text
line_long e w h k =
    let v = value_text e.gain w in
    rw (length-append (key e) (v ++ (10 ∷ [])), length-append v (10 ∷ [])) (omega (arith, k, value_long e.gain w h))

-- the first n bytes of a text that begins with xs
take_front : (n : ℕ) (xs ys : List ℕ) → length xs ≤ n → take n (xs ++ ys) ≡ xs ++ take (n - length xs) ys
take_front n [] ys h = ap (λ (k : ℕ). take k ys) (zero_off n)
  where
    zero_off : (n : ℕ) → n ≡ n - 0
    zero_off n = omega arith
take_front zero (x ∷ xs) ys h = absurd (omega (arith, h))
take_front (suc n) (x ∷ xs) ys h = ap (λ (l : List ℕ). x ∷ l) (take_front n xs ys (omega (arith, h)) ∙ ap (λ (k : ℕ). xs ++ take k ys) (off n (length xs)))
  where
    off : (n k : ℕ) → n - k ≡ suc n - suc k
    off n k = omega arith

-- a first line that is not good is not good in the first n bytes either
still_wrong : (e : Entry) (bs : List ℕ) (n : ℕ) → free 10 e.name ≡ true → first_of e bs ≡ None → first_of e (take n bs) ≡ None
still_wrong e bs n f h = by (first_of e (take n bs)) refl
  where
    by : (x : Option ℕ) → first_of e (take n bs) ≡ x → first_of e (take n bs) ≡ None
    by None g = g
    by (Some w) g =
        let t = sym (take-append-drop n bs) ∙ ap (λ (l : List ℕ). l ++ drop n bs) (first_only e (take n bs) g)
        ∙ append_assoc (line_text e w) (behind 10 (take n bs)) (drop n bs) in
        absurd (none-some _ (sym h ∙ ap (first_of e) t ∙ first_back e w _ (first_top e (take n bs) w g) f))

none : (i n : ℕ) (bs : List ℕ) → 1 ≤ n → read_lines i [] (take n bs) ≡ read_lines i [] bs
unfolding read_lines
none i zero bs h = absurd (omega (arith, h))
none i (suc n) [] h = refl
none i (suc n) (b ∷ bs) h = refl

-- a good first line, in the first n bytes: it is as good there, and behind it stands what stood there, less what was cut off
pub record Cut (e : Entry) (bs : List ℕ) (n w : ℕ) : Type 0 where
  pub m : ℕ
  pub few : n ≤ m + 25
  pub first : first_of e (take n bs) ≡ Some w
  pub rest : behind 10 (take n bs) ≡ take m (behind 10 bs)

pub cut_line : (e : Entry) (bs : List ℕ) (n w : ℕ) → free 10 e.name ≡ true → length (key e) ≤ 6 → 25 ≤ n → first_of e bs ≡ Some w → Cut e bs n w
cut_line e bs n w f six h g =
    let r = behind 10 bs in
    let m = n - length (line_text e w) in
    let top = first_top e bs w g in
    let l = line_long e w top six in
    let cut : take n bs ≡ line_text e w ++ take m r = ap (take n) (first_only e bs g) ∙ take_front n (line_text e w) r (omega (arith, l, h)) in
    record {
      m = m;
      few = omega (arith, l);
      first = ap (first_of e) cut ∙ first_back e w (take m r) top f;
      rest = ap (behind 10) cut ∙ rest_back e w (take m r) f;
    }

-- what a list of entries gives of its first
module _ (e : Entry) (es : List Entry) (p : plain 10 (e ∷ es) ≡ true) (k : short (e ∷ es) ≡ true) where
  pub its_free : free 10 e.name ≡ true
  unfolding plain
  its_free = and_left (free 10 e.name) (plain 10 es) p

  pub its_key : length (key e) ≤ 6
  unfolding short
  its_key = leb-true (length (key e)) 6 (and_left (leb (length (key e)) 6) (short es) k)

  pub others_free : plain 10 es ≡ true
  unfolding plain
  others_free = and_right (free 10 e.name) (plain 10 es) p

  pub others_short : short es ≡ true
  unfolding short
  others_short = and_right (leb (length (key e)) 6) (short es) k

settled : (i n : ℕ) (es : List Entry) (bs : List ℕ) → plain 10 es ≡ true → short es ≡ true → 25 * length es + 1 ≤ n
    → read_lines i es (take n bs) ≡ read_lines i es bs
unfolding read_lines with_first
settled i n [] bs p k h = none i n bs (omega (arith, h))
settled i n (e ∷ es) bs p k h =
    by (first_of e bs) refl (λ m l. settled (i + 1) m es (behind 10 bs) (others_free e es p k) (others_short e es p k) l)
  where
    by : (x : Option ℕ) → first_of e bs ≡ x
        → ((m : ℕ) → 25 * length es + 1 ≤ m → read_lines (i + 1) es (take m (behind 10 bs)) ≡ read_lines (i + 1) es (behind 10 bs))
        → read_lines i (e ∷ es) (take n bs) ≡ read_lines i (e ∷ es) bs
    by None g more = rw (g, still_wrong e bs n (its_free e es p k) g) refl
    by (Some w) g more =
        let c = cut_line e bs n w (its_free e es p k) (its_key e es p k) (omega (arith, h)) g in
        rw (c.first, c.rest, g) (ap (λ (ls : Words). with_first i (Some w) ls) (more c.m (omega (arith, c.few, h))))

pub lines_early : (bs : List ℕ) (n : ℕ) → 500 ≤ n → lines_of (take n bs) ≡ lines_of bs
unfolding lines_of
lines_early bs n h = ap settings_in (settled 1 n entries bs no_feeds own_short (omega (arith, h, count_entries)))

pub sheet_early : (bs : List ℕ) (n : ℕ) → 500 ≤ n → read_sheet (take n bs) ≡ read_sheet bs
unfolding read_sheet
sheet_early bs n h = ap outcome (lines_early bs n h)
