-- What is said of a text is settled by its first 500 bytes: the first faulty line has begun by then, and 41 bytes of it are as much as is looked at.
-- Assumes nothing.
use mathlib.Core.Path.{◌≡◌, refl, ap, sym, ◌∙◌, subst}
use mathlib.Core.Bool.{true}
use mathlib.Core.List.{List, [], ◌∷◌}
use Prim.Native.Nat.{ℕ, zero, suc, ◌+◌, ◌-◌, ◌*◌, ◌≤◌, ◌<◌, min}
use native.Mathlib.Omega.{arith}
use borrow.Author.Tests.{lt-ltb, le-ltb}
use lib.Dec.{eqb, ltb}
use lib.IntN.{ℤ}
use lib.ListN.{length, take, length-take}
use Rattle.fixed.proofs.Choice.{by_test, by_order}
use Rattle.settings.specs.Words.{Entry, entries}
use Rattle.std.specs.Prelude.{Option, Some, None}
use Rattle.values.specs.Value.{before, behind}
use Rattle.sheet.specs.Sheet.{first_of, Words, words, faulty, and_then, with_first, read_lines, settings_in, lines_of}
use Rattle.sheet.proofs.SheetLaws.{plain, no_feeds, count_entries}
use Rattle.sheet.proofs.CodeLaws.{short, own_short}
use Rattle.sheet.proofs.Sizes.{fault_most}
use Rattle.sheet.proofs.Early.{cut_line, its_free, its_key, others_free, others_short, lines_early}
use Rattle.findings.specs.Findings.{quoted, end_text, found_text, from_line, fault_text, told_text, answer_text}

-- ════ what is shown of a line
cut_before : (b m : ℕ) (xs : List ℕ) → before b (take m xs) ≡ take m (before b xs)
unfolding before
cut_before b zero xs = refl
cut_before b (suc m) [] = refl
cut_before b (suc m) (x ∷ xs) =
    by_test (eqb x b) (λ t. rw t refl) (λ t. rw t (ap (λ (l : List ℕ). x ∷ l) (cut_before b m xs)))

take_take : (k m : ℕ) (xs : List ℕ) → k ≤ m → take k (take m xs) ≡ take k xs
take_take zero m xs h = refl
take_take (suc k) zero xs h = absurd (omega (arith, h))
take_take (suc k) (suc m) [] h = refl
take_take (suc k) (suc m) (x ∷ xs) h = ap (λ (l : List ℕ). x ∷ l) (take_take k m xs (omega (arith, h)))

-- a test of lengths, once they are cut at m
cut_test : (k m n : ℕ) → k < m → ltb k (min m n) ≡ ltb k n
cut_test k m n h =
    by_order k n (λ l. lt-ltb k (min m n) (omega (arith, h, l)) ∙ sym (lt-ltb k n l)) (λ l. le-ltb k (min m n) (omega (arith, l)) ∙ sym (le-ltb k n l))

end_same : (m : ℕ) (bs : List ℕ) → 41 ≤ m → end_text (take m bs) ≡ end_text bs
unfolding end_text
end_same m bs h =
    let x = before 10 bs in
    rw (cut_before 10 m bs, length-take m x, length-take m bs, cut_test 40 m (length x) h)
    (by_order 40 (length x) (λ l. rw (lt-ltb 40 (length x) l) refl)
    (λ l. let e : min m (length x) ≡ length x = omega (arith, l, h) in
    rw (le-ltb 40 (length x) l, e, cut_test (length x) m (length bs) (omega (arith, l, h))) refl))

found_same : (m : ℕ) (bs : List ℕ) → 41 ≤ m → found_text (take m bs) ≡ found_text bs
unfolding found_text quoted
found_same m bs h =
    let few = take_take 40 m (before 10 bs) (omega (arith, h)) in
    rw (end_same m bs h, length-take m bs, cut_test 0 m (length bs) (omega (arith, h)), cut_before 10 m bs, few) refl

-- ════ where the faulty line begins
-- from there on the first n bytes of a text are the first m, which are few less
pub record Onward (c k n : ℕ) (bs : List ℕ) : Type 0 where
  pub m : ℕ
  pub enough : c ≤ m
  pub same : from_line k (take n bs) ≡ take m (from_line k bs)

no_fault : {zs : List ℤ} {j : ℕ} → words zs ≡ faulty j → ⊥
no_fault e = let z : ◌≡◌ {A = ℕ} 0 1 = cc in omega arith

here : (c n : ℕ) (bs : List ℕ) → c ≤ n → Onward c 0 n bs
unfolding from_line
here c n bs h = record { m = n; enough = h; same = refl }

at_zero : (c i j n : ℕ) (bs : List ℕ) → i ≡ j → c ≤ n → Onward c (j - i) n bs
at_zero c i j n bs e h = let z : 0 ≡ j - i = omega (arith, e) in subst (λ (k : ℕ). Onward c k n bs) z (here c n bs h)

-- one line further
next : (c k n m : ℕ) (bs : List ℕ) → behind 10 (take n bs) ≡ take m (behind 10 bs) → Onward c k m (behind 10 bs) → Onward c (suc k) n bs
unfolding from_line
next c k n m bs e o = record { m = o.m; enough = o.enough; same = ap (from_line k) e ∙ o.same }

later : (i j : ℕ) (w : ℕ) (ls : Words) → with_first i (Some w) ls ≡ faulty j → ls ≡ faulty j
unfolding with_first and_then
later i j w (words zs) e = absurd (no_fault e)
later i j w (faulty m) e = e

onward : (c i j n : ℕ) (es : List Entry) (bs : List ℕ) → plain 10 es ≡ true → short es ≡ true → 25 * length es + c ≤ n
    → read_lines i es bs ≡ faulty j → Onward c (j - i) n bs
unfolding read_lines plain short with_first
onward c i j n [] [] p k h e = absurd (no_fault e)
onward c i j n [] (b ∷ bs) p k h e = let z : i ≡ j = cc in at_zero c i j n (b ∷ bs) z (omega (arith, h))
onward c i j n (x ∷ es) bs p k h e =
    by (first_of x bs) refl e (λ m l q. onward c (i + 1) j m es (behind 10 bs) (others_free x es p k) (others_short x es p k) l q)
  where
    rest : Words
    rest = read_lines (i + 1) es (behind 10 bs)

    by : (y : Option ℕ) → first_of x bs ≡ y → with_first i y rest ≡ faulty j
        → ((m : ℕ) → 25 * length es + c ≤ m → rest ≡ faulty j → Onward c (j - (i + 1)) m (behind 10 bs)) → Onward c (j - i) n bs
    by None g e more = let z : i ≡ j = cc in at_zero c i j n bs z (omega (arith, h))
    by (Some w) g e more =
        let q = later i j w rest e in
        let t = cut_line x bs n w (its_free x es p k) (its_key x es p k) (omega (arith, h)) g in
        let z : suc (j - (i + 1)) ≡ j - i = omega (arith, (fault_most (i + 1) j es (behind 10 bs) q).0) in
        subst (λ (k : ℕ). Onward c k n bs) z (next c (j - (i + 1)) n t.m bs t.rest (more t.m (omega (arith, t.few, h)) q))

-- ════ all that is said
told_same : (j : ℕ) (xs ys : List ℕ) → found_text xs ≡ found_text ys → fault_text j xs ≡ fault_text j ys
unfolding fault_text
told_same j xs ys e = rw e refl

pub answer_early : (bs : List ℕ) (n : ℕ) → 500 ≤ n → answer_text (take n bs) ≡ answer_text bs
unfolding answer_text told_text lines_of settings_in
answer_early bs n h = rw (lines_early bs n (omega (arith, h))) (by (read_lines 1 entries bs) refl)
  where
    by : (ls : Words) → read_lines 1 entries bs ≡ ls → told_text (take n bs) (settings_in ls) ≡ told_text bs (settings_in ls)
    by (words zs) e = refl
    by (faulty j) e =
        let o = onward 41 1 j n entries bs no_feeds own_short (omega (arith, h, count_entries)) e in
        told_same j _ _ (ap found_text o.same ∙ found_same o.m (from_line (j - 1) bs) o.enough)
