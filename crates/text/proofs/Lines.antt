-- The line automaton reads the grammar. Fed every byte of a line and then ended (`line_read o bs`), it refuses what is no line (`refused`)
-- and what has more numbers than the slice o has places (`too_many`). Of any other line (`accepted`) its count is that of the line's
-- numbers, which stand at the front of the slice (`first_numbers`). So what is not refused is such a line (`only`).
-- Assumes nothing.
use mathlib.Core.Path.{◌≡◌, refl, sym, ◌∙◌}
use mathlib.Core.Bool.{true, false, cond, true≢false}
use mathlib.Core.List.{List, [], ◌∷◌, ◌++◌, append_assoc, append-nil}
use mathlib.Core.Option.{Option, none, some}
use Prim.Native.Nat.{ℕ, suc, ◌+◌, ◌≤◌, ◌<◌}
use native.Mathlib.Numerals.{add-one}
use native.Mathlib.Omega.{arith}
use borrow.Author.Tests.{lt-ltb, le-ltb}
use lib.Dec.{eqb}
use lib.IntN.{ℤ}
use lib.ListN.{length, get_or, take, drop, set, length-append, length-drop}
use lib.Seq.{drop-cons, set_at, take_at}
use Rattle.text.specs.Grammar.{words_in, both, numbers_of, number_of, line_of}
use Rattle.text.specs.Automaton.{word_start, word_after, word_ok, word_value, line_start, takes, line_bad, line_end}
use Rattle.text.specs.Automaton.{line_on, numbers_end, line_next, numbers_next, Reading, read_next, read_all, read_end, line_read}
use Rattle.text.specs.declared.Line.{Line}
use Rattle.fixed.proofs.Choice.{by_test, by_order}
use Rattle.text.proofs.Words.{word_good, word_bad, after_more}

-- what a line that is taken leaves, of the numbers zs over the numbers o
pub record Taken (o zs : List ℤ) (r : Reading) : Type 0 where
  pub good : r.line.bad ≡ false
  pub counted : r.line.count ≡ length zs
  pub front : r.numbers ≡ zs ++ drop (length zs) o

-- what is to come of a line whose numbers zs have been read: none is refused, and so are more numbers than there is room for
abbrev pub Outcome : List ℤ → List ℤ → Option (List ℤ) → Reading → Type 0
Outcome o zs none r = r.line.bad ≡ true
Outcome o zs (some ys) r = (length (zs ++ ys) ≤ length o → Taken o (zs ++ ys) r) × (length o < length (zs ++ ys) → r.line.bad ≡ true)

-- what comes of a line from the middle on
abbrev from : Line → List ℤ → List ℕ → Reading
from l ns bs = read_end (read_all (record { line = l; numbers = ns }) bs)

from_next : (l : Line) (ns : List ℤ) (b : ℕ) (bs : List ℕ) →
    from l ns (b ∷ bs) ≡ from (cond (eqb b 32) (line_end l (length ns)) (line_on l b)) (cond (eqb b 32) (numbers_end l ns) ns) bs
unfolding read_all line_next numbers_next
from_next l ns b bs = refl

-- ════ a line that is bad stays so
bad_end : (l : Line) (n : ℕ) → l.bad ≡ true → (line_end l n).bad ≡ true
unfolding line_end
bad_end l n h = by_test (takes l n) (λ e. rw e h) (λ e. rw e refl)

bad_read : (l : Line) (ns : List ℤ) (bs : List ℕ) → l.bad ≡ true → (from l ns bs).line.bad ≡ true
unfolding read_all line_next
bad_read l ns [] h = bad_end l (length ns) h
bad_read l ns (b ∷ bs) h =
    bad_read (line_next l b (length ns)) (numbers_next l b ns) bs (by_test (eqb b 32) (λ e. rw e (bad_end l (length ns) h)) (λ e. rw e h))

-- ════ the numbers zs have been read over o, and the bytes p of the word at hand
abbrev line_at : List ℤ → List ℕ → Line
line_at zs p = record { word = word_after word_start p; count = length zs; bad = false }

abbrev over : List ℤ → List ℤ → List ℤ
over zs o = zs ++ drop (length zs) o

over_length : (zs o : List ℤ) → length zs ≤ length o → length (over zs o) ≡ length o
over_length zs o h = simp (length-append, length-drop) (omega arith)

more_length : (zs : List ℤ) (z : ℤ) → length (zs ++ (z ∷ [])) ≡ length zs + 1
more_length zs z = length-append zs (z ∷ [])

-- a number more: in its place, and in what is to come
over_more : (zs o : List ℤ) (z : ℤ) → length zs < length o → set (over zs o) (length zs) z ≡ over (zs ++ (z ∷ [])) o
over_more zs o z h =
    rw (drop-cons o (length zs) z, set_at zs (get_or o (length zs) z) (drop (suc (length zs)) o) z (length zs) refl, append_assoc, more_length, add-one)

outcome_more : (o zs : List ℤ) (z : ℤ) (rest : Option (List ℤ)) (r : Reading) → Outcome o (zs ++ (z ∷ [])) rest r → Outcome o zs (both (some z) rest) r
unfolding both
outcome_more o zs z none r h = h
outcome_more o zs z (some ys) r h = rw append_assoc at h

-- a bad line is what becomes of more numbers than there is room for
outcome_over : (o zs : List ℤ) (z : ℤ) (rest : Option (List ℤ)) (r : Reading) → length o ≤ length zs → r.line.bad ≡ true → Outcome o zs (both (some z) rest) r
unfolding both
outcome_over o zs z none r h b = b
outcome_over o zs z (some ys) r h b = (λ l. absurd (omega (arith, h, l, length-append zs (z ∷ ys))), λ l. b)

-- ════ a word ends, and R reads on: what is shown of the rest holds of both
module _ (o : List ℤ) (R : Line → List ℤ → Reading) (sticks : (l : Line) (ns : List ℤ) → l.bad ≡ true → (R l ns).line.bad ≡ true) where
  ended : (rest : Option (List ℤ)) (zs : List ℤ) (p : List ℕ) → length zs ≤ length o →
      ((z : ℤ) → length zs < length o → Outcome o (zs ++ (z ∷ [])) rest (R (line_at (zs ++ (z ∷ [])) []) (over (zs ++ (z ∷ [])) o))) →
      Outcome o zs (both (number_of p) rest) (R (line_end (line_at zs p) (length (over zs o))) (numbers_end (line_at zs p) (over zs o)))
  unfolding takes line_end numbers_end word_after both
  ended rest zs p h k =
      let n = length (over zs o) in
      let e = over_length zs o h in
      let w = word_after word_start p in
      let z = word_value w in
      let bad = sticks (line_bad (line_at zs p)) (over zs o) refl in
      by_test (word_ok w)
      (λ t. rw (word_good p t, t) (by_order (length zs) (length o)
      (λ f. rw (lt-ltb (length zs) n (omega arith), over_more zs o z f, ← more_length zs z) (outcome_more o zs z rest _ (k z f)))
      (λ f. rw (le-ltb (length zs) n (omega arith)) (outcome_over o zs z rest _ f bad))))
      (λ t. rw (word_bad p t, t) bad)

-- ════ the automaton is the grammar
-- the last word's number was the last number
last : (o zs : List ℤ) → length zs ≤ length o → Outcome o zs (some []) (record { line = line_at zs []; numbers = over zs o })
last o zs h =
    rw (append-nil zs) (λ l. record { good = refl; counted = refl; front = refl }, λ l. absurd (omega (arith, h, l)))

read : (o : List ℤ) (bs p : List ℕ) (zs : List ℤ) → length zs ≤ length o → Outcome o zs (numbers_of (words_in p bs)) (from (line_at zs p) (over zs o) bs)
unfolding words_in numbers_of read_all
read o [] p zs h =
    ended o (λ l ns. record { line = l; numbers = ns }) (λ l ns b. b) (some []) zs p h (λ z f. last o (zs ++ (z ∷ [])) (omega (arith, f, more_length zs z)))
read o (b ∷ bs) p zs h =
    by_test (eqb b 32)
    (λ e. rw (from_next (line_at zs p) (over zs o) b bs, e)
    (ended o (λ l ns. from l ns bs) (λ l ns. bad_read l ns bs) (numbers_of (words_in [] bs)) zs p h
    (λ z f. read o bs [] (zs ++ (z ∷ [])) (omega (arith, f, more_length zs z)))))
    (λ e. rw (from_next (line_at zs p) (over zs o) b bs, e, ← after_more word_start p b) (read o bs (p ++ (b ∷ [])) zs h))

line_reads : (bs : List ℕ) (o : List ℤ) → Outcome o [] (line_of bs) (line_read o bs)
unfolding line_of line_read line_start word_after
line_reads bs o = read o bs [] [] (omega arith)

-- a line of numbers for which there is room is taken
pub accepted : (bs : List ℕ) (o zs : List ℤ) → line_of bs ≡ some zs → length zs ≤ length o → Taken o zs (line_read o bs)
accepted bs o zs e h = (rw e at (line_reads bs o)).0 h

-- what is no such line is refused
pub refused : (bs : List ℕ) (o : List ℤ) → line_of bs ≡ none → (line_read o bs).line.bad ≡ true
refused bs o e = rw e at (line_reads bs o)

pub too_many : (bs : List ℕ) (o zs : List ℤ) → line_of bs ≡ some zs → length o < length zs → (line_read o bs).line.bad ≡ true
too_many bs o zs e h = (rw e at (line_reads bs o)).1 h

-- so a line that is not refused has its numbers, at the front
pub only : (bs : List ℕ) (o : List ℤ) → (line_read o bs).line.bad ≡ false →
    (zs : List ℤ) × (line_of bs ≡ some zs) × (length zs ≤ length o) × Taken o zs (line_read o bs)
only bs o h = split (line_of bs) refl
  where
    split : (r : Option (List ℤ)) → line_of bs ≡ r → (zs : List ℤ) × (line_of bs ≡ some zs) × (length zs ≤ length o) × Taken o zs (line_read o bs)
    split none e = absurd (true≢false (sym (refused bs o e) ∙ h))
    split (some zs) e =
        by_order (length o) (length zs) (λ l. absurd (true≢false (sym (too_many bs o zs e l) ∙ h))) (λ l. (zs, e, l, accepted bs o zs e l))

-- and they are the first `count` of the slice
pub first_numbers : {o zs : List ℤ} {r : Reading} → Taken o zs r → take r.line.count r.numbers ≡ zs
first_numbers {o} {zs} {r} t = rw (t.counted, t.front) (take_at zs (drop (length zs) o) (length zs) refl)

-- for whoever feeds it in pieces: one byte more
pub read_more : (r : Reading) (bs : List ℕ) (b : ℕ) → read_all r (bs ++ (b ∷ [])) ≡ read_next (read_all r bs) b
unfolding read_all
read_more r [] b = refl
read_more r (a ∷ bs) b = read_more (read_next r a) bs b
