-- The promises of specs/Promised hold.
-- Assumes nothing.
use mathlib.Core.Path.{◌≡◌, refl, ap, sym, ◌∙◌}
use mathlib.Core.Bool.{true, false, true≢false}
use mathlib.Core.List.{List, [], ◌∷◌, ◌++◌}
use Prim.Native.Nat.{ℕ, suc, ◌-◌, ◌<◌}
use native.Mathlib.Omega.{arith}
use lib.IntN.{ℤ, pos}
use lib.ListN.{length, get_or}
use Rattle.fixed.specs.Fixed.{is_in}
use Rattle.fixed.proofs.Choice.{by_test, by_order}
use Rattle.fixed.proofs.HeldLaws.{and_both}
use Rattle.settings.specs.declared.Settings.{Settings}
use Rattle.settings.specs.Settings.{tied, gains_tied}
use Rattle.settings.specs.Words.{Entry, entries, no_entry, size, words_of, all_in}
use Rattle.settings.proofs.Names.{in-range-number, untied_only}
use Rattle.std.specs.Prelude.{Result, Ok, Err}
use Rattle.sheet.specs.declared.Unread.TheVariants.{Faulty}
use Rattle.sheet.specs.Sheet.{lines_of, outcome, read_sheet}
use Rattle.sheet.proofs.SheetLaws.{good_text, sheet_refused, judged→, judged_number, count_entries}
use Rattle.findings.specs.Findings.{from_line, fault_text, first_out, untied_at, refused_text, accepted_text, judged_text, told_text, answer_text}
use Rattle.findings.specs.Phrases as say
use Rattle.findings.specs.Promised as is
use Rattle.findings.proofs.Early.{answer_early}

-- ════ what is said is what is read
pub good_echoed : is.GoodEchoed
unfolding read_sheet outcome answer_text told_text judged_text accepted_text
good_echoed bs s e = by (lines_of bs) refl e
  where
    by : (f : Result Settings ℕ) → lines_of bs ≡ f → outcome f ≡ Ok s → told_text bs f ≡ say.accepted ++ bs
    by (Ok r) g e = let h = judged→ r s e in rw h.0 (ap (λ (l : List ℕ). say.accepted ++ l) (sym (good_text bs r g)))
    by (Err i) g e = let z : ◌≡◌ {A = ℕ} 0 1 = cc in absurd (omega arith)

pub fault_told : is.FaultTold
unfolding read_sheet outcome answer_text told_text
fault_told bs j e = by (lines_of bs) e
  where
    by : (f : Result Settings ℕ) → outcome f ≡ Err (Faulty j) → told_text bs f ≡ fault_text j (from_line (j - 1) bs)
    by (Ok r) e = absurd (judged_number r j e)
    by (Err i) e = let z : i ≡ j = cc in ap (λ (k : ℕ). fault_text k (from_line (k - 1) bs)) z

pub refusal_told : is.RefusalTold
unfolding answer_text told_text judged_text
refusal_told bs r e =
    let h = (sheet_refused bs r).0 e in
    record { settings = h.0; stand = h.1; refused = h.2; number = h.3; said = rw (h.1, h.2) (ap (refused_text h.0) h.3) }

pub unread_changes_nothing : is.UnreadChangesNothing
unread_changes_nothing = answer_early

-- ════ what is named is at fault
none_out : (es : List Entry) (zs : List ℤ) → length zs ≡ length es → length es ≡ first_out es zs → all_in es zs ≡ true
unfolding first_out all_in
none_out [] [] l e = refl
none_out [] (z ∷ zs) l e = absurd (omega (arith, l))
none_out (x ∷ es) [] l e = absurd (omega (arith, l))
none_out (x ∷ es) (z ∷ zs) l e =
    by_test (is_in x.range z)
    (λ t. let g = rw t at e in rw t (none_out es zs (omega (arith, l)) (omega (arith, g))))
    (λ t. let g = rw t at e in absurd (omega (arith, g)))

at_most : (es : List Entry) (zs : List ℤ) → first_out es zs < suc (length es)
unfolding first_out
at_most [] zs = omega arith
at_most (x ∷ es) [] = omega arith
at_most (x ∷ es) (z ∷ zs) =
    by_test (is_in x.range z) (λ t. rw t (omega (arith, at_most es zs))) (λ t. rw t (omega arith))

is_out : (es : List Entry) (zs : List ℤ) → length zs ≡ length es → first_out es zs < length es →
    is_in (get_or es (first_out es zs) no_entry).range (get_or zs (first_out es zs) (pos 0)) ≡ false
unfolding first_out
is_out [] zs l h = absurd (omega (arith, h))
is_out (x ∷ es) [] l h = absurd (omega (arith, l))
is_out (x ∷ es) (z ∷ zs) l h =
    by_test (is_in x.range z)
    (λ t. let g = rw t at h in rw t (is_out es zs (omega (arith, l)) (omega (arith, g))))
    (λ t. rw t t)

word_count : (s : Settings) → length (words_of s) ≡ length entries
unfolding words_of entries
word_count s = refl

pub word_out : is.WordOut
word_out s a n =
    let l : first_out entries (words_of s) < size = by_order (first_out entries (words_of s)) size (λ h. h)
    (λ h. absurd (n (in-range-number s (none_out entries (words_of s) (word_count s) (omega (arith, h, at_most entries (words_of s), count_entries))) a))) in
    (l, is_out entries (words_of s) (word_count s) (omega (arith, l, count_entries)))

pub set_untied : is.SetUntied
unfolding untied_at words_of gains_tied
set_untied s e =
    let u = untied_only s e in
    by_test (tied s.skp s.skcor s.ski)
    (λ t. rw t (by_test (tied s.ckp s.ckcor s.cki) (λ c. absurd (true≢false (sym (and_both t c) ∙ u))) (λ c. c)))
    (λ t. rw t t)
