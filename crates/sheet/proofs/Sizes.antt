-- How large a faulty line's number can be, how long the sheet of accepted settings, and what an answered length says.
-- Assumes nothing.
use mathlib.Core.Path.{◌≡◌, refl, sym}
use mathlib.Core.Bool.{Bool, true, false, cond, ◌&&◌}
use mathlib.Core.List.{List, [], ◌∷◌}
use Prim.Native.Nat.{ℕ, suc, ◌+◌, ◌/◌, ◌%◌, ◌^◌, ◌≤◌}
use native.Mathlib.Omega.{arith}
use borrow.Author.Tests.{leb-true, ltb-true, lt-ltb}
use lib.Dec.{ltb, leb}
use lib.IntN.{ℤ, pos, nat_abs}
use mir.Syntax.{w32}
use mir.Val.{to_z}
use lib.ListN.{length, length-append}
use Rattle.fixed.specs.Fixed.{is_in}
use Rattle.fixed.proofs.Choice.{choose, by_test}
use Rattle.fixed.proofs.HeldLaws.{and_left, and_right}
use Rattle.fixed.proofs.Ranges.{in_size}
use Rattle.fixed.specs.Refusal.{reason}
use Rattle.settings.specs.declared.Settings.{Settings}
use Rattle.settings.specs.Settings.{accepted, refusal}
use Rattle.settings.specs.Words.{Entry, entries, key, words_of, all_in}
use Rattle.settings.proofs.Names.{all_in_lem}
use Rattle.writing.specs.Decimal.{count_text}
use Rattle.writing.proofs.DecimalLaws.{decimal_length}
use Rattle.sheet.specs.declared.Unread.TheVariants.{Faulty}
use Rattle.sheet.specs.declared.Unwritten.TheVariants.{Barred, Short}
use Rattle.values.specs.Value.{behind, gain_text, value_text}
use Rattle.sheet.specs.Sheet.{line_text, lines_text, sheet_text, first_of, Words, words, faulty, and_then, with_first, read_lines, lines_of, read_sheet, wrote}
use Rattle.sheet.proofs.SheetLaws.{lines_faulty}
use Rattle.values.proofs.Putting.{fraction_length}
use Rattle.std.specs.Prelude.{Option, Some, None, Ok, Err}

-- ════ the number of a faulty line
by_first : (i n j : ℕ) (x : Option ℕ) (ls : Words) → with_first i x ls ≡ faulty j → (ls ≡ faulty j → (i + 1 ≤ j) × (j ≤ i + 1 + n)) → (i ≤ j) × (j ≤ i + suc n)
unfolding with_first and_then
by_first i n j None ls e f = let z : i ≡ j = cc in (omega (arith, z), omega (arith, z))
by_first i n j (Some w) (words zs) e f = cc
by_first i n j (Some w) (faulty m) e f = let h = f e in (omega (arith, h.0), omega (arith, h.1))

pub fault_most : (i j : ℕ) (es : List Entry) (bs : List ℕ) → read_lines i es bs ≡ faulty j → (i ≤ j) × (j ≤ i + length es)
unfolding read_lines
fault_most i j [] [] e = cc
fault_most i j [] (b ∷ bs) e = let z : i ≡ j = cc in (omega (arith, z), omega (arith, z))
fault_most i j (x ∷ es) bs e =
    by_first i (length es) j (first_of x bs) (read_lines (i + 1) es (behind 10 bs)) e (λ h. fault_most (i + 1) j es (behind 10 bs) h)

pub line_most : (bs : List ℕ) (j : ℕ) → read_sheet bs ≡ Err (Faulty j) → (1 ≤ j) × (j ≤ 16)
unfolding read_sheet lines_of entries
line_most bs j e = fault_most 1 j entries bs (lines_faulty (read_lines 1 entries bs) j e)

-- ════ the length of a sheet
-- a gain has one digit, a point and twelve at most; a whole number four or five
value_most : Entry → ℕ
value_most e = cond e.gain 14 (cond (ltb e.range.hi 10000) 4 5)

most_of : List Entry → ℕ
most_of [] = 0
most_of (e ∷ es) = length (key e) + value_most e + 1 + most_of es

-- words of fifteen bits
narrow : List Entry → Bool
narrow [] = true
narrow (e ∷ es) = leb e.range.hi 32767 && narrow es

gain_most : (w : ℕ) → w ≤ 32767 → length (gain_text w) ≤ 14
unfolding gain_text count_text
gain_most w h = simp length-append (omega (arith, decimal_length 19 0 (w / 4096) (omega arith), fraction_length (w % 4096)))

whole_most : (w hi : ℕ) → w ≤ hi → hi ≤ 32767 → length (count_text w) ≤ cond (ltb hi 10000) 4 5
unfolding count_text
whole_most w hi h m =
    choose (λ (n : ℕ). length (count_text w) ≤ n) (ltb hi 10000) 4 5
    (λ t. decimal_length 19 3 w (omega (arith, h, ltb-true hi 10000 t)))
    (λ t. decimal_length 19 4 w (omega arith))

value_most_lem : (e : Entry) (w : ℕ) → w ≤ e.range.hi → e.range.hi ≤ 32767 → length (value_text e.gain w) ≤ value_most e
unfolding value_text value_most
value_most_lem e w h m = by e.gain
  where
    by : (gain : Bool) → length (cond gain (gain_text w) (count_text w)) ≤ cond gain 14 (cond (ltb e.range.hi 10000) 4 5)
    by true = gain_most w (omega (arith, h, m))
    by false = whole_most w e.range.hi h m

lines_most : (es : List Entry) (zs : List ℤ) → narrow es ≡ true → all_in es zs ≡ true → length (lines_text es zs) ≤ most_of es
unfolding lines_text line_text all_in narrow most_of
lines_most [] zs n r = omega arith
lines_most (e ∷ es) [] n r = omega arith
lines_most (e ∷ es) (z ∷ zs) n r =
    let v = value_most_lem e (nat_abs z) (in_size e.range z (and_left (is_in e.range z) (all_in es zs) r))
    (leb-true e.range.hi 32767 (and_left (leb e.range.hi 32767) (narrow es) n)) in
    simp length-append
    (omega (arith, v, lines_most es zs (and_right (leb e.range.hi 32767) (narrow es) n) (and_right (is_in e.range z) (all_in es zs) r)))

pub sheet_most : (s : Settings) → accepted s ≡ true → length (sheet_text s) ≤ 187
unfolding sheet_text narrow most_of value_most entries
sheet_most s a = lines_most entries (words_of s) refl (all_in_lem s a)

-- a length that is answered is the sheet's
pub fits : (s : Settings) (room n : ℕ) → wrote s room ≡ Ok n → (accepted s ≡ true) × (length (sheet_text s) ≤ room) × (n ≡ length (sheet_text s))
unfolding wrote
fits s room n e = by (accepted s) refl e
  where
    by : (b : Bool) → accepted s ≡ b
        → cond b (cond (leb (length (sheet_text s)) room) (Ok (length (sheet_text s))) (Err Short)) (Err (Barred (reason (refusal s)))) ≡ Ok n
        → (accepted s ≡ true) × (length (sheet_text s) ≤ room) × (n ≡ length (sheet_text s))
    by true a e =
        by_test (leb (length (sheet_text s)) room)
        (λ t. let g = rw t at e in let z : length (sheet_text s) ≡ n = cc in (a, leb-true (length (sheet_text s)) room t, sym z))
        (λ t. let g = rw t at e in cc)
    by false a e = cc

pub length_most : (s : Settings) (room n : ℕ) → wrote s room ≡ Ok n → n ≤ 187
length_most s room n e = let f = fits s room n e in omega (arith, f.2, sheet_most s f.0)

-- ════ so 32 bits hold both
pub line_word : (bs : List ℕ) {j : ℕ} → read_sheet bs ≡ Err (Faulty j) → to_z w32 j ≡ pos j
line_word bs {j} e = rw (lt-ltb j (2 ^ 31) (omega (arith, (line_most bs j e).1))) refl

pub length_word : (s : Settings) (room : ℕ) {n : ℕ} → wrote s room ≡ Ok n → to_z w32 n ≡ pos n
length_word s room {n} e = rw (lt-ltb n (2 ^ 31) (omega (arith, length_most s room n e))) refl

pub ruleset lines_held = (line_most, line_word)

pub ruleset lengths_held = (length_most, length_word)
