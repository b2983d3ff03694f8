-- What the code of the findings stands on: bytes as they are shown, lines of a text, a word's name, the first word out of range, why settings are refused.
-- Assumes nothing.
use mathlib.Core.Path.{◌≡◌, refl, ap, sym, ◌∙◌}
use mathlib.Core.Bool.{Bool, true, false}
use mathlib.Core.List.{List, [], ◌∷◌, ◌++◌, append_assoc, append-nil}
use Prim.Native.Nat.{ℕ, zero, suc, ◌+◌, ◌-◌, ◌≤◌, ◌<◌, min}
use native.Mathlib.Numerals.{add-one}
use native.Mathlib.Omega.{arith}
use lib.ListN.{length, get_or, take, drop, length-take, length-drop, drop_of_length-le}
use lib.Seq.{take_all}
use borrow.Author.Tests.{lt-ltb, le-ltb}
use lib.IntN.{ℤ, pos}
use denote.Enum.Bare.{sameb}
use Rattle.fixed.specs.contracts.refusal.Refusal.{the_type}
use Rattle.fixed.specs.declared.refusal.Refusal.{Refusal}
use Rattle.fixed.specs.declared.refusal.Refusal.TheVariants.{
  Period,
  Gains,
  Untied,
  Limits,
  Rest,
  Sample,
  Tripped,
  Target,
  Rows,
  NotTripped,
  Broken,
  NoSheet,
  NoRoom,
  NoRow,
}
use Rattle.fixed.specs.Refusal.{number_of}
use Rattle.fixed.proofs.Choice.{by_order}
use Rattle.std.specs.Prelude.{Option, Some, None, Err, MatchOption}
use Rattle.fixed.specs.Fixed.{is_in, within}
use Rattle.settings.specs.Words.{Entry, entries, entry_at, no_entry, size}
use Rattle.values.specs.Value.{before, behind}
use Rattle.values.proofs.CodeLaws.{before_take, rest_part}
use Rattle.writing.specs.declared.Page.{Page}
use Rattle.writing.specs.Page.{Put}
use Rattle.writing.proofs.PageLaws.{none, then}
use Rattle.sheet.specs.Sheet.{lines_of, outcome, read_sheet}
use Rattle.sheet.proofs.SheetLaws.{count_entries}
use Rattle.sheet.proofs.Sizes.{line_most}
use Rattle.findings.specs.Phrases as say
use Rattle.findings.specs.Findings.{shown_byte, shown, quoted, end_text, from_line, first_out}

-- ════ bytes as they are shown
pub shown_length : (bs : List ℕ) → length (shown bs) ≡ length bs
unfolding shown
shown_length [] = refl
shown_length (b ∷ bs) = ap suc (shown_length bs)

pub shown_get : (bs : List ℕ) (i : ℕ) → i < length bs → get_or (shown bs) i 0 ≡ shown_byte (get_or bs i 0)
unfolding shown
shown_get [] i h = absurd (omega (arith, h))
shown_get (b ∷ bs) zero h = refl
shown_get (b ∷ bs) (suc i) h = shown_get bs i (omega (arith, h))

-- the first bytes, where as many are taken as there are, and m at most
pub first_part : (n m : ℕ) (bs : List ℕ) → n ≡ min (length bs) m → take n bs ≡ take m bs
first_part n m bs e =
    by_order (length bs) m
    (λ h. take_all n bs (omega (arith, e, h)) ∙ sym (take_all m bs (omega (arith, h))))
    (λ h. let z : n ≡ m = omega (arith, e, h) in ap (λ (k : ℕ). take k bs) z)

shown_one : (bs : List ℕ) (b : ℕ) → shown (bs ++ (b ∷ [])) ≡ shown bs ++ (shown_byte b ∷ [])
unfolding shown
shown_one [] b = refl
shown_one (x ∷ xs) b = ap (λ (l : List ℕ). shown_byte x ∷ l) (shown_one xs b)

-- what stands once some bytes of a line are shown behind a quote, with n of the rest to be shown
pub record Showing (line : List ℕ) (p q : Page) (rest : List ℕ) (n : ℕ) : Type 0 where
  pub done : List ℕ
  pub put : Put p q ((34 ∷ []) ++ shown done)
  pub own : done ++ take n rest ≡ take 40 line
  pub few : q.at + n ≤ p.at + 41

pub showing_none : {line rest : List ℕ} {p q : Page} {n : ℕ} → Put p q (34 ∷ []) → rest ≡ line → n ≡ 40 → Showing line p q rest n
unfolding shown
showing_none h e f = record { done = []; put = h; own = rw (e, f) refl; few = omega (arith, h.place, f) }

pub showing_more : {line rest more : List ℕ} {p q r : Page} {n m b c : ℕ} → Showing line p q rest n → rest ≡ b ∷ more → m + 1 ≡ n
    → Put q r (c ∷ []) → c ≡ shown_byte b → Showing line p r more m
showing_more {more = more} {m = m} {b} s e f h g =
    record {
      done = s.done ++ (b ∷ []);
      put = rw (shown_one, ← g) (then s.put h);
      own = rw append_assoc (rw (e, ← f, add-one) at s.own);
      few = omega (arith, s.few, f, h.place);
    }

none_left : (n : ℕ) (rest : List ℕ) → (0 < n → length rest ≡ 0) → take n rest ≡ []
none_left zero rest e = refl
none_left (suc n) [] e = refl
none_left (suc n) (x ∷ xs) e = absurd (omega (arith, e (omega arith)))

pub showing_all : {line rest : List ℕ} {p q r : Page} {n : ℕ} → Showing line p q rest n → (0 < n → length rest ≡ 0) → Put q r (34 ∷ [])
    → Put p r (quoted line)
unfolding quoted
showing_all {rest = rest} {n = n} s e h = rw (sym s.own, none_left n rest e, append-nil) (then s.put h)

pub ruleset showing = (showing_none, showing_more)

-- ════ lines of a text
pub before_most : (b : ℕ) (bs : List ℕ) → length (before b bs) ≤ length bs
before_most b bs = omega (arith, ap length (before_take b bs), length-take (length (before b bs)) bs)

-- what is said of the end of a first line
pub end_long : (bs : List ℕ) → 40 < length (before 10 bs) → end_text bs ≡ say.and_more
unfolding end_text
end_long bs h = rw (lt-ltb 40 (length (before 10 bs)) h) refl

pub end_bare : (bs : List ℕ) → length (before 10 bs) ≤ 40 → length (before 10 bs) ≡ length bs → end_text bs ≡ say.without_feed
unfolding end_text
end_bare bs h e = rw (le-ltb 40 (length (before 10 bs)) h, le-ltb (length (before 10 bs)) (length bs) (omega (arith, e))) refl

pub end_fed : (bs : List ℕ) → length (before 10 bs) ≤ 40 → (length (before 10 bs) ≡ length bs → ⊥) → end_text bs ≡ []
unfolding end_text
end_fed bs h e =
    rw (le-ltb 40 (length (before 10 bs)) h, lt-ltb (length (before 10 bs)) (length bs) (omega (arith, e, before_most 10 bs))) refl

pub ruleset ends = (end_long, end_bare, end_fed, none)

from_next : (k : ℕ) (bs : List ℕ) → from_line (suc k) bs ≡ behind 10 (from_line k bs)
unfolding from_line
from_next zero bs = refl
from_next (suc k) bs = from_next k (behind 10 bs)

-- what is left once k lines are passed, and the next is
pub record Left (bs rest : List ℕ) (k : ℕ) : Type 0 where
  pub own : rest ≡ from_line k bs
  pub few : length rest ≤ length bs

pub left_none : (bs : List ℕ) → Left bs bs 0
unfolding from_line
left_none bs = record { own = refl; few = omega arith }

left_more : {bs rest next : List ℕ} {k : ℕ} → Left bs rest k → next ≡ behind 10 rest → Left bs next (k + 1)
left_more {bs} {rest} {next} {k} l e =
    record {
      own = rw (add-one, from_next k bs, ← l.own) e;
      few = omega (arith, l.few, ap length e, length-drop (suc (length (before 10 rest))) rest);
    }

-- behind the n bytes that are its first line, or with no line feed behind them
pub left_behind : {bs rest : List ℕ} {k : ℕ} (n : ℕ) → Left bs rest k → n ≡ length (before 10 rest)
    → Left bs (take (length rest - (n + 1)) (drop (n + 1) rest)) (k + 1)
left_behind {rest = rest} n l e =
    left_more l (rest_part (n + 1) rest ∙ ap (λ (m : ℕ). drop m rest) (add-one n ∙ ap suc e))

pub left_end : {bs rest : List ℕ} {k : ℕ} (n : ℕ) → Left bs rest k → n ≡ length (before 10 rest) → length rest ≤ n → Left bs [] (k + 1)
left_end {rest = rest} n l e h =
    let m : length rest ≤ suc (length (before 10 rest)) = omega (arith, e, h) in
    left_more l (sym (drop_of_length-le rest m))

pub ruleset leaving = (left_none, left_behind, left_end)

-- a faulty line's number is 1 or more
pub fault_some : (bs : List ℕ) (j : ℕ) → lines_of bs ≡ Err j → 1 ≤ j
unfolding read_sheet outcome
fault_some bs j e = (line_most bs j (ap outcome e)).0

-- ════ a word's name
-- the name is the key without its last byte
pub name_short : (bs : List ℕ) → length bs ≤ 6 → length (take (length bs - 1) bs) ≤ 5
name_short bs h = omega (arith, h, length-take (length bs - 1) bs)

-- ════ the first word out of its range
-- whether word k is in its range
abbrev pub is_good : List ℤ → ℕ → Bool
is_good zs k = is_in (entry_at k).range (get_or zs k (pos 0))

first_at : (es : List Entry) (zs : List ℤ) (i : ℕ) (d : Entry) → length zs ≡ length es → i < length es
    → is_in (get_or es i d).range (get_or zs i (pos 0)) ≡ false → ((k : ℕ) → k < i → is_in (get_or es k d).range (get_or zs k (pos 0)) ≡ true)
    → i ≡ first_out es zs
unfolding first_out
first_at [] zs i d l h e f = absurd (omega (arith, h))
first_at (x ∷ es) [] i d l h e f = absurd (omega (arith, l))
first_at (x ∷ es) (z ∷ zs) zero d l h e f = rw e refl
first_at (x ∷ es) (z ∷ zs) (suc i) d l h e f =
    rw (f 0 (omega arith)) (ap suc (first_at es zs i d (omega (arith, l)) (omega (arith, h)) e (λ k m. f (suc k) (omega (arith, m)))))

none_at : (es : List Entry) (zs : List ℤ) (d : Entry) → length zs ≡ length es
    → ((k : ℕ) → k < length es → is_in (get_or es k d).range (get_or zs k (pos 0)) ≡ true) → length es ≤ first_out es zs
unfolding first_out
none_at [] zs d l f = omega arith
none_at (x ∷ es) [] d l f = absurd (omega (arith, l))
none_at (x ∷ es) (z ∷ zs) d l f =
    rw (f 0 (omega arith)) (omega (arith, none_at es zs d (omega (arith, l)) (λ k m. f (suc k) (omega (arith, m)))))

pub first_found : (zs : List ℤ) (r : Option ℕ) → length zs ≡ size
    → MatchOption r ((k : ℕ) → 0 ≤ k → k < size → is_good zs k ≡ true)
    (λ i. (0 ≤ i) × (i < size) × (is_good zs i ≡ false) × ((k : ℕ) → 0 ≤ k → k < i → is_good zs k ≡ true))
    → MatchOption r (size ≤ first_out entries zs) (λ i. (i ≡ first_out entries zs) × (i < size))
first_found zs None l h =
    omega (arith, count_entries, none_at entries zs no_entry (omega (arith, l, count_entries)) (λ k m. h k (omega arith) (omega (arith, m, count_entries))))
first_found zs (Some i) l h =
    (first_at entries zs i no_entry (omega (arith, l, count_entries)) (omega (arith, h.1, count_entries)) h.2 (λ k m. h.3 k (omega arith) m), h.1)

-- ════ why settings are refused
-- the one that names a gain set is number 3
pub third : (r : Refusal) → sameb the_type r Untied ≡ within (pos 3) (pos 3) (number_of r)
third Period = refl
third Gains = refl
third Untied = refl
third Limits = refl
third Rest = refl
third Sample = refl
third Tripped = refl
third Target = refl
third Rows = refl
third NotTripped = refl
third Broken = refl
third NoSheet = refl
third NoRoom = refl
third NoRow = refl
