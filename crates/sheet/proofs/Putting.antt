-- Writing a sheet: all lines one after another, and what is answered and stands in the buffer.
-- Assumes nothing.
use mathlib.Core.Path.{◌≡◌, refl, ap, ap₂, sym, ◌∙◌}
use mathlib.Core.Bool.{true, false}
use mathlib.Core.List.{List, [], ◌∷◌, ◌++◌, append_assoc, append-nil}
use Prim.Native.Nat.{ℕ, ◌+◌, ◌≤◌, ◌<◌}
use native.Mathlib.Numerals.{add-one}
use native.Mathlib.Omega.{arith}
use borrow.Author.Tests.{le-leb, lt-leb}
use lib.IntN.{ℤ, pos, nat_abs}
use lib.ListN.{length, get_or, take, drop}
use lib.Seq.{take-suc, take_all, take-append_seam, length-take-le}
use Rattle.writing.specs.Decimal.{written}
use Rattle.writing.specs.declared.Page.{Page}
use Rattle.writing.specs.Page.{Put}
use Rattle.writing.proofs.PageLaws.{then}
use Rattle.fixed.specs.Refusal.{reason}
use Rattle.settings.specs.declared.Settings.{Settings}
use Rattle.settings.specs.Settings.{accepted, refusal}
use Rattle.settings.specs.Words.{Entry, entries, words_of, no_entry, entry_at, size as line_count}
use Rattle.sheet.specs.declared.Unwritten.TheVariants.{Barred, Short}
use Rattle.sheet.specs.Sheet.{line_text, lines_text, sheet_text, wrote, sheet_in}
use Rattle.sheet.proofs.SheetLaws.{count_entries}
use Rattle.std.specs.Prelude.{Err, Ok}

-- ════ all lines
lines_more : (es : List Entry) (zs : List ℤ) (e : Entry) (z : ℤ) → length es ≡ length zs
    → lines_text (es ++ (e ∷ [])) (zs ++ (z ∷ [])) ≡ lines_text es zs ++ line_text e (nat_abs z)
unfolding lines_text
lines_more [] [] e z h = append-nil (line_text e (nat_abs z))
lines_more [] (v ∷ zs) e z h = absurd (omega (arith, h))
lines_more (d ∷ es) [] e z h = absurd (omega (arith, h))
lines_more (d ∷ es) (v ∷ zs) e z h =
    ap (λ (l : List ℕ). line_text d (nat_abs v) ++ l) (lines_more es zs e z (omega (arith, h)))
    ∙ sym (append_assoc (line_text d (nat_abs v)) (lines_text es zs) (line_text e (nat_abs z)))

-- the first i lines
abbrev pub firsts : List ℤ → ℕ → List ℕ
firsts zs i = lines_text (take i entries) (take i zs)

-- line i of these words
abbrev pub line_at : List ℤ → ℕ → List ℕ
line_at zs i = line_text (entry_at i) (nat_abs (get_or zs i (pos 0)))

firsts_more : (zs : List ℤ) (i : ℕ) → length zs ≡ line_count → i < line_count → firsts zs (i + 1) ≡ firsts zs i ++ line_at zs i
firsts_more zs i l h =
    rw (add-one i)
    (ap₂ lines_text (take-suc entries i no_entry (omega (arith, count_entries))) (take-suc zs i (pos 0) (omega (arith, l)))
    ∙ lines_more (take i entries) (take i zs) (entry_at i) (get_or zs i (pos 0))
    (length-take-le i entries (omega (arith, count_entries)) ∙ sym (length-take-le i zs (omega (arith, l)))))

-- one line more
pub put_next : {p q r : Page} (zs : List ℤ) (i : ℕ) → length zs ≡ line_count → i < line_count → Put p q (firsts zs i) → Put q r (line_at zs i)
    → Put p r (firsts zs (i + 1))
put_next zs i l h a b = rw (firsts_more zs i l h) (then a b)

-- and all of them
pub put_all : {p q : Page} (zs : List ℤ) (i : ℕ) → length zs ≡ line_count → line_count ≤ i → Put p q (firsts zs i) → Put p q (lines_text entries zs)
put_all zs i l h a = rw (take_all i entries (omega (arith, count_entries)), take_all i zs (omega (arith, l))) at a

-- what was written is what stands in front
pub front : (o bs : List ℕ) → take (length bs) (written o 0 bs) ≡ bs
unfolding written
front o bs = take-append_seam bs (drop (0 + length bs) o)

-- a page on which all lines are put from its start
pub made : {p q : Page} (s : Settings) {zs : List ℤ} → p.at ≡ 0 → Put p q (lines_text entries zs) → zs ≡ words_of s
    → (q.at ≡ length (sheet_text s)) × (take q.at q.out.now ≡ sheet_text s)
unfolding sheet_text
made {p} {q} s {zs} z w e =
    let t : lines_text entries zs ≡ sheet_text s = ap (lines_text entries) e in
    let n : q.at ≡ length (sheet_text s) = omega (arith, w.place, z, ap length t) in
    (n, rw (n, w.bytes, z, t) (front p.out.now (sheet_text s)))

-- ════ what is answered, and what stands in the buffer
module _ (s : Settings) (out : List ℕ) where
  pub barred : accepted s ≡ false → (Err (Barred (reason (refusal s))) ≡ wrote s (length out)) × (out ≡ sheet_in s out)
  unfolding wrote sheet_in
  barred a = (rw a refl, rw a refl)

  pub too_short : accepted s ≡ true → length out < length (sheet_text s) → (Err Short ≡ wrote s (length out)) × (out ≡ sheet_in s out)
  unfolding wrote sheet_in
  too_short a h = let t = lt-leb (length (sheet_text s)) (length out) h in (simp (a, t), simp (a, t))

  pub in-full : {n : ℕ} {text : List ℕ} → accepted s ≡ true → n ≤ length out → n ≡ length (sheet_text s) → text ≡ sheet_text s
      → (Ok n ≡ wrote s (length out)) × (text ++ drop n out ≡ sheet_in s out)
  unfolding wrote sheet_in written
  in-full {n} a h e f =
      let t = le-leb (length (sheet_text s)) (length out) (omega (arith, h, e)) in
      let z : n ≡ 0 + length (sheet_text s) = omega (arith, e) in
      (rw (a, t) (ap Ok e), rw (a, t, f, z) refl)
