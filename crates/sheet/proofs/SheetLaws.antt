-- The sheet: what is written is read back, what is read is what is written, which line is the first faulty one, no text with a comma is read, and when a
-- buffer is too short.
-- Assumes nothing.
use mathlib.Core.Path.{◌≡◌, refl, ap, ap₂, sym, ◌∙◌, subst}
use mathlib.Core.Bool.{Bool, true, false, not, ◌&&◌, true≢false, and-false, cond}
use mathlib.Core.List.{List, [], ◌∷◌, ◌++◌, append_assoc}
use mathlib.Core.Logic.{◌↔◌, ⊎_elim}
use Prim.Native.Nat.{ℕ, suc, ◌+◌, ◌<◌}
use native.Mathlib.Omega.{arith}
use borrow.Author.Tests.{leb-false, lt-leb, ltb-true, eqb-true, eq-eqb, ne_eqb}
use lib.Dec.{eqb, ltb, leb}
use lib.IntN.{ℤ, pos, negsuc, nat_abs}
use lib.ListN.{length, drop}
use lib.Seq.{drop_at, take_all}
use lib.Signed.{◌≤ℤ◌}
use Rattle.fixed.specs.Fixed.{is_in}
use Rattle.fixed.proofs.Choice.{true_or_false}
use Rattle.fixed.proofs.HeldLaws.{and_left, and_right, and_both}
use Rattle.fixed.proofs.Ranges.{in-up, in_size}
use Rattle.settings.specs.declared.Settings.{Settings}
use Rattle.settings.specs.Settings.{accepted, refusal}
use Rattle.settings.specs.Words.{Entry, entries, size, key, words_of, settings_of, all_in}
use Rattle.fixed.specs.declared.refusal.Refusal.{Refusal}
use Rattle.fixed.specs.Refusal.{number_of, reason}
use Rattle.fixed.proofs.RefusalLaws.{reason_back}
use Rattle.settings.proofs.Names.{all_in_lem}
use Rattle.settings.proofs.Ranges.{refusal_number}
use Rattle.settings.proofs.WordLaws.{settings_words}
use Rattle.sheet.specs.declared.Unread.TheVariants.{Refused, Faulty}
use Rattle.sheet.specs.declared.Unwritten.TheVariants.{Short}
use Rattle.values.specs.Value.{top, value_text, before, has, behind}
use Rattle.sheet.specs.Sheet.{line_text, lines_text, sheet_text, starts, line_of, first_of, Words, words, faulty, and_then, with_first, read_lines}
use Rattle.sheet.specs.Sheet.{settings_in, lines_of, judged, outcome, read_sheet, wrote, sheet_in}
use Rattle.sheet.specs.Faults.{FirstFault, over, here, later}
use Rattle.values.proofs.ValueLaws.{only_if, free, free_both, before_at, has_at, behind_at, split, value_top, value_only, value_back, value_free}
use Rattle.std.proofs.lemmas.Option.{none-some}
use Rattle.std.specs.Prelude.{Option, Result, Some, None, Ok, Err}

-- ════ a line
pub starts_own : (ns bs : List ℕ) → starts ns (ns ++ bs) ≡ true
unfolding starts
starts_own [] bs = refl
starts_own (n ∷ ns) bs = and_both (eq-eqb n n refl) (starts_own ns bs)

pub starts→ : (ns bs : List ℕ) → starts ns bs ≡ true → bs ≡ ns ++ drop (length ns) bs
unfolding starts
starts→ [] bs t = refl
starts→ (n ∷ ns) [] t = absurd (true≢false (sym t))
starts→ (n ∷ ns) (b ∷ bs) t =
    ap₂ (λ (x : ℕ) (l : List ℕ). x ∷ l) (sym (eqb-true n b (and_left (eqb n b) (starts ns bs) t))) (starts→ ns bs (and_right (eqb n b) (starts ns bs) t))

line_back : (e : Entry) (w : ℕ) → w < top e.gain → line_of e (key e ++ value_text e.gain w) ≡ Some w
unfolding line_of
line_back e w h =
    rw (starts_own (key e) (value_text e.gain w), drop_at (key e) (value_text e.gain w) (length (key e)) refl) (value_back e.gain w h)

line_only : (e : Entry) (bs : List ℕ) {w : ℕ} → line_of e bs ≡ Some w → bs ≡ key e ++ value_text e.gain w
unfolding line_of
line_only e bs h =
    let t = only_if (starts (key e) bs) h in
    starts→ (key e) bs t.0 ∙ ap (λ (l : List ℕ). key e ++ l) (value_only e.gain (drop (length (key e)) bs) t.1)

-- ════ a line with its line feed
-- neither the name nor the value has a byte b below 46
free_sign : (b : ℕ) → b < 46 → free b (61 ∷ []) ≡ true
unfolding free
free_sign b h = and_both (ap not (ne_eqb 61 b (λ e. omega (arith, h, e)))) refl

free_line : (b : ℕ) (e : Entry) (w : ℕ) → b < 46 → free b e.name ≡ true → free b (key e ++ value_text e.gain w) ≡ true
free_line b e w h n = free_both b (key e) (value_text e.gain w) (free_both b e.name (61 ∷ []) n (free_sign b h)) (value_free b e.gain w h)

line_whole : (e : Entry) (w : ℕ) (bs : List ℕ) → line_text e w ++ bs ≡ (key e ++ value_text e.gain w) ++ (10 ∷ bs)
unfolding line_text
line_whole e w bs = simp append_assoc

pub first_back : (e : Entry) (w : ℕ) (bs : List ℕ) → w < top e.gain → free 10 e.name ≡ true → first_of e (line_text e w ++ bs) ≡ Some w
unfolding first_of
first_back e w bs h n =
    let l = key e ++ value_text e.gain w in
    let f = free_line 10 e w (omega arith) n in
    rw (line_whole e w bs, has_at 10 l bs f, before_at 10 l bs f) (line_back e w h)

pub rest_back : (e : Entry) (w : ℕ) (bs : List ℕ) → free 10 e.name ≡ true → behind 10 (line_text e w ++ bs) ≡ bs
rest_back e w bs n = rw (line_whole e w bs) (behind_at 10 (key e ++ value_text e.gain w) bs (free_line 10 e w (omega arith) n))

pub first_only : (e : Entry) (bs : List ℕ) {w : ℕ} → first_of e bs ≡ Some w → bs ≡ line_text e w ++ behind 10 bs
unfolding first_of
first_only e bs {w} h =
    let t = only_if (has 10 bs) h in
    split 10 bs t.0 ∙ ap (λ (l : List ℕ). l ++ (10 ∷ behind 10 bs)) (line_only e (before 10 bs) t.1) ∙ sym (line_whole e w (behind 10 bs))

-- ════ all lines
-- names without a byte b
unfoldable pub plain : ℕ → List Entry → Bool
plain b [] = true
plain b (e ∷ es) = free b e.name && plain b es

-- words in range that a value can be
unfoldable pub modest : List Entry → Bool
modest [] = true
modest (e ∷ es) = ltb e.range.hi (top e.gain) && modest es

up : (z : ℤ) → pos 0 ≤ℤ z → pos (nat_abs z) ≡ z
up (pos n) h = refl
up (negsuc n) h = absurd h.le

lines_back : (i : ℕ) (es : List Entry) (zs : List ℤ) → plain 10 es ≡ true → modest es ≡ true → all_in es zs ≡ true → read_lines i es
    (lines_text es zs) ≡ words zs
unfolding plain modest all_in read_lines lines_text with_first and_then
lines_back i [] [] p m r = refl
lines_back i [] (z ∷ zs) p m r = absurd (true≢false (sym r))
lines_back i (e ∷ es) [] p m r = absurd (true≢false (sym r))
lines_back i (e ∷ es) (z ∷ zs) p m r =
    let t = lines_text es zs in
    let n = and_left (free 10 e.name) (plain 10 es) p in
    let h = ltb-true e.range.hi (top e.gain) (and_left (ltb e.range.hi (top e.gain)) (modest es) m) in
    let g = and_left (is_in e.range z) (all_in es zs) r in
    let w = first_back e (nat_abs z) t (omega (arith, h, in_size e.range z g)) n in
    let more = lines_back (i + 1) es zs (and_right (free 10 e.name) (plain 10 es) p) (and_right (ltb e.range.hi (top e.gain)) (modest es) m)
    (and_right (is_in e.range z) (all_in es zs) r) in
    rw (w, rest_back e (nat_abs z) t n, more) (ap (λ (x : ℤ). words (x ∷ zs)) (up z (in-up e.range z g)))

pub record Whole (es : List Entry) (bs : List ℕ) (zs : List ℤ) : Type 0 where
  pub text : bs ≡ lines_text es zs
  pub count : length zs ≡ length es

pub record Fronted (x : Option ℕ) (ls : Words) (zs : List ℤ) : Type 0 where
  pub w : ℕ
  pub more : List ℤ
  pub front : x ≡ Some w
  pub others : ls ≡ words more
  pub both : zs ≡ pos w ∷ more

fronted : (i : ℕ) (x : Option ℕ) (ls : Words) {zs : List ℤ} → with_first i x ls ≡ words zs → Fronted x ls zs
unfolding with_first and_then
fronted i None ls e = cc
fronted i (Some w) (words more) e = record { w = w; more = more; front = refl; others = refl; both = cc }
fronted i (Some w) (faulty j) e = cc

pub lines_only : (i : ℕ) (es : List Entry) (bs : List ℕ) {zs : List ℤ} → read_lines i es bs ≡ words zs → Whole es bs zs
unfolding read_lines lines_text
lines_only i [] [] {zs} e = let n : zs ≡ [] = cc in record { text = refl; count = ap length n }
lines_only i [] (b ∷ bs) e = cc
lines_only i (x ∷ es) bs {zs} e =
    let f = fronted i (first_of x bs) (read_lines (i + 1) es (behind 10 bs)) e in
    let r = lines_only (i + 1) es (behind 10 bs) f.others in
    record {
      text = first_only x bs f.front ∙ ap (λ (l : List ℕ). line_text x f.w ++ l) r.text ∙ sym (ap (lines_text (x ∷ es)) f.both);
      count = ap length f.both ∙ ap suc r.count;
    }

-- ════ the first faulty line
pub first_top : (e : Entry) (bs : List ℕ) (w : ℕ) → first_of e bs ≡ Some w → w < top e.gain
unfolding first_of line_of
first_top e bs w h =
    let t = only_if (has 10 bs) h in
    let u = only_if (starts (key e) (before 10 bs)) t.1 in
    value_top e.gain (drop (length (key e)) (before 10 bs)) w u.1

-- what the first line makes of the others
fault_by : (i j : ℕ) (e : Entry) (es : List Entry) (bs : List ℕ) → free 10 e.name ≡ true → (x : Option ℕ) → first_of e bs ≡ x
    → (ls : Words) → with_first i x ls ≡ faulty j → (ls ≡ faulty j → FirstFault (i + 1) es (behind 10 bs) j) → FirstFault i (e ∷ es) bs j
unfolding with_first and_then
fault_by i j e es bs n None f ls h k =
    let z : i ≡ j = cc in
    subst (λ (m : ℕ). FirstFault i (e ∷ es) bs m) z
    (here i e es bs (λ w more l t. none-some _ (sym f ∙ ap (first_of e) t ∙ first_back e w more l n)))
fault_by i j e es bs n (Some w) f (words ws) h k = cc
fault_by i j e es bs n (Some w) f (faulty m) h k =
    subst (λ (t : List ℕ). FirstFault i (e ∷ es) t j) (sym (first_only e bs f)) (later i j w e es (behind 10 bs) (first_top e bs w f) (k h))

lines_fault : (i j : ℕ) (es : List Entry) (bs : List ℕ) → plain 10 es ≡ true → read_lines i es bs ≡ faulty j → FirstFault i es bs j
unfolding read_lines plain
lines_fault i j [] [] p h = cc
lines_fault i j [] (b ∷ bs) p h = let z : i ≡ j = cc in subst (λ (m : ℕ). FirstFault i [] (b ∷ bs) m) z (over i b bs)
lines_fault i j (e ∷ es) bs p h =
    fault_by i j e es bs (and_left (free 10 e.name) (plain 10 es) p) (first_of e bs) refl (read_lines (i + 1) es (behind 10 bs)) h
    (λ g. lines_fault (i + 1) j es (behind 10 bs) (and_right (free 10 e.name) (plain 10 es) p) g)

-- and the other way: the first fault is the one that is given
first_wrong : (e : Entry) (bs : List ℕ) → ((w : ℕ) (more : List ℕ) → w < top e.gain → bs ≡ line_text e w ++ more → ⊥) → first_of e bs ≡ None
first_wrong e bs bar = by (first_of e bs) refl
  where
    by : (x : Option ℕ) → first_of e bs ≡ x → first_of e bs ≡ None
    by None f = f
    by (Some w) f = absurd (bar w (behind 10 bs) (first_top e bs w f) (first_only e bs f))

fault_lines : {i j : ℕ} {es : List Entry} {bs : List ℕ} → FirstFault i es bs j → plain 10 es ≡ true → read_lines i es bs ≡ faulty j
unfolding read_lines plain with_first and_then
fault_lines (over i b bs) p = refl
fault_lines (here i e es bs bar) p = rw (first_wrong e bs bar) refl
fault_lines (later i j w e es more h f) p =
    let n = and_left (free 10 e.name) (plain 10 es) p in
    rw (first_back e w more h n, rest_back e w more n, fault_lines f (and_right (free 10 e.name) (plain 10 es) p)) refl

-- ════ the settings' own lines
pub no_feeds : plain 10 entries ≡ true
unfolding plain entries free
no_feeds = refl

no_commas : plain 44 entries ≡ true
unfolding plain entries free
no_commas = refl

pub own_modest : modest entries ≡ true
unfolding modest entries
own_modest = refl

settings_back : (s : Settings) → settings_of (words_of s) ≡ s
unfolding settings_of words_of
settings_back s = refl

words_back : (zs : List ℤ) → length zs ≡ size → words_of (settings_of zs) ≡ zs
words_back zs e = settings_words zs (omega (arith, e)) ∙ take_all size zs (omega (arith, e))

pub count_entries : length entries ≡ size
unfolding entries
count_entries = refl

-- ════ the sheet of accepted settings is read as them
pub sheet_back : (s : Settings) → accepted s ≡ true → read_sheet (sheet_text s) ≡ Ok s
unfolding read_sheet lines_of sheet_text settings_in outcome judged
sheet_back s a = rw (lines_back 1 entries (words_of s) no_feeds own_modest (all_in_lem s a), settings_back s, a) refl

-- ════ and no other text is
-- what a text whose lines are all good is: the text of the settings in it
pub lines_text_lem : (bs : List ℕ) {zs : List ℤ} → read_lines 1 entries bs ≡ words zs → bs ≡ sheet_text (settings_of zs)
unfolding sheet_text
lines_text_lem bs {zs} e =
    let w = lines_only 1 entries bs e in
    w.text ∙ ap (lines_text entries) (sym (words_back zs (w.count ∙ count_entries)))

pub record Came (bs : List ℕ) (s : Settings) : Type 0 where
  pub accepts : accepted s ≡ true
  pub text : bs ≡ sheet_text s

pub judged→ : (r s : Settings) → judged r ≡ Ok s → (accepted r ≡ true) × (r ≡ s)
unfolding judged
judged→ r s e =
    ⊎_elim (λ t. (t, let g = rw t at e in cc))
    (λ t. let g = rw t at e in cc)
    (true_or_false (accepted r))

lines_read : (ls : Words) {s : Settings} → outcome (settings_in ls) ≡ Ok s → (zs : List ℤ) × (ls ≡ words zs) × (judged (settings_of zs) ≡ Ok s)
unfolding outcome settings_in
lines_read (words zs) e = (zs, refl, e)
lines_read (faulty i) e = cc

pub sheet_only : (bs : List ℕ) (s : Settings) → read_sheet bs ≡ Ok s → Came bs s
unfolding read_sheet lines_of
sheet_only bs s e =
    let r = lines_read (read_lines 1 entries bs) e in
    let j = judged→ (settings_of r.0) s r.2 in
    record { accepts = sym (ap accepted j.1) ∙ j.0; text = lines_text_lem bs r.1 ∙ ap sheet_text j.1 }

pub judged_refused : (s : Settings) (r : Refusal) → judged s ≡ Err (Refused r) → (accepted s ≡ false) × (refusal s ≡ number_of r)
unfolding judged
judged_refused s r e =
    ⊎_elim (λ t. let g = rw t at e in cc)
    (λ t. (t, let g = rw t at e in let z : reason (refusal s) ≡ r = cc in sym (refusal_number s t) ∙ ap number_of z))
    (true_or_false (accepted s))

-- a text whose lines are all good is the text of the settings in it
pub good_text : (bs : List ℕ) (s : Settings) → lines_of bs ≡ Ok s → bs ≡ sheet_text s
unfolding lines_of settings_in
good_text bs s e = by (read_lines 1 entries bs) refl e
  where
    by : (ls : Words) → read_lines 1 entries bs ≡ ls → settings_in ls ≡ Ok s → bs ≡ sheet_text s
    by (words zs) g e = let z : settings_of zs ≡ s = cc in lines_text_lem bs g ∙ ap sheet_text z
    by (faulty i) g e = cc

-- and those settings are refused with the number that is given
pub sheet_refused : (bs : List ℕ) (r : Refusal)
    → (read_sheet bs ≡ Err (Refused r)) ↔ ((s : Settings) × (lines_of bs ≡ Ok s) × (accepted s ≡ false) × (refusal s ≡ number_of r))
unfolding read_sheet outcome judged
sheet_refused bs r = (λ e. by (lines_of bs) refl e, λ h. rw (h.1, h.2, h.3, reason_back r) refl)
  where
    by : (f : Result Settings ℕ) → lines_of bs ≡ f → outcome f ≡ Err (Refused r)
        → (s : Settings) × (lines_of bs ≡ Ok s) × (accepted s ≡ false) × (refusal s ≡ number_of r)
    by (Ok s) g e = let j = judged_refused s r e in (s, g, j.0, j.1)
    by (Err i) g e = cc

-- ════ commas
free_feed : (b : ℕ) → (10 ≡ b → ⊥) → free b (10 ∷ []) ≡ true
unfolding free
free_feed b n = and_both (ap not (ne_eqb 10 b n)) refl

free_lines : (b : ℕ) → b < 46 → (10 ≡ b → ⊥) → (es : List Entry) (zs : List ℤ) → plain b es ≡ true → free b (lines_text es zs) ≡ true
unfolding lines_text line_text plain free
free_lines b h n [] zs p = refl
free_lines b h n (e ∷ es) [] p = refl
free_lines b h n (e ∷ es) (z ∷ zs) p =
    let v = value_text e.gain (nat_abs z) in
    let l = free_line b e (nat_abs z) h (and_left (free b e.name) (plain b es) p) in
    free_both b (line_text e (nat_abs z)) (lines_text es zs)
    (rw (sym (append_assoc (key e) v (10 ∷ []))) (free_both b (key e ++ v) (10 ∷ []) l (free_feed b n)))
    (free_lines b h n es zs (and_right (free b e.name) (plain b es) p))

not_free : (b : ℕ) (xs ys : List ℕ) → free b (xs ++ (b ∷ ys)) ≡ false
unfolding free
not_free b [] ys = rw (eq-eqb b b refl) refl
not_free b (x ∷ xs) ys = rw (not_free b xs ys) (and-false (not (eqb x b)))

-- a text with a comma (44) anywhere has a faulty line
pub comma_faulty : (xs ys : List ℕ) → (j : ℕ) × (read_sheet (xs ++ (44 ∷ ys)) ≡ Err (Faulty j))
unfolding read_sheet lines_of outcome settings_in
comma_faulty xs ys = by (read_lines 1 entries (xs ++ (44 ∷ ys))) refl
  where
    sheet_free : (zs : List ℤ) → free 44 (lines_text entries zs) ≡ true
    sheet_free zs = free_lines 44 (omega arith) (λ e. omega (arith, e)) entries zs no_commas

    by : (ls : Words) → read_lines 1 entries (xs ++ (44 ∷ ys)) ≡ ls → (j : ℕ) × (outcome (settings_in ls) ≡ Err (Faulty j))
    by (words zs) e = absurd (true≢false (sym (sheet_free zs) ∙ sym (ap (free 44) (lines_only 1 entries (xs ++ (44 ∷ ys)) e).text) ∙ not_free 44 xs ys))
    by (faulty j) e = (j, refl)

pub judged_number : (s : Settings) (j : ℕ) → judged s ≡ Err (Faulty j) → ⊥
unfolding judged
judged_number s j e =
    ⊎_elim (λ t. let g = rw t at e in cc)
    (λ t. let g = rw t at e in cc)
    (true_or_false (accepted s))

pub lines_faulty : (ls : Words) (j : ℕ) → outcome (settings_in ls) ≡ Err (Faulty j) → ls ≡ faulty j
unfolding outcome settings_in
lines_faulty (words zs) j e = absurd (judged_number (settings_of zs) j e)
lines_faulty (faulty i) j e = let z : i ≡ j = cc in ap faulty z

-- ════ a faulty line is the first that is not its name, an equals sign, a value and a line feed
pub sheet_fault : (bs : List ℕ) (j : ℕ) → read_sheet bs ≡ Err (Faulty j) → FirstFault 1 entries bs j
unfolding read_sheet lines_of
sheet_fault bs j e = lines_fault 1 j entries bs no_feeds (lines_faulty (read_lines 1 entries bs) j e)

pub fault_sheet : (bs : List ℕ) (j : ℕ) → FirstFault 1 entries bs j → read_sheet bs ≡ Err (Faulty j)
unfolding read_sheet lines_of outcome settings_in
fault_sheet bs j f = rw (fault_lines f no_feeds) refl

-- ════ 18 exactly when the settings are accepted and the buffer is shorter than the sheet; and nothing is written unless a length is answered
wrote_as : (s : Settings) (n : ℕ) → accepted s ≡ true → wrote s n ≡ cond (leb (length (sheet_text s)) n) (Ok (length (sheet_text s))) (Err Short)
unfolding wrote
wrote_as s n a = rw a refl

not_short : (s : Settings) (n : ℕ) → accepted s ≡ false → wrote s n ≡ Err Short → ⊥
unfolding wrote
not_short s n a e = let g = rw a at e in cc

short_less : (s : Settings) (n : ℕ) → accepted s ≡ true → wrote s n ≡ Err Short → n < length (sheet_text s)
short_less s n a e =
    ⊎_elim (λ t. let g = sym (wrote_as s n a) ∙ e in let h = rw t at g in cc)
    (λ t. leb-false (length (sheet_text s)) n t)
    (true_or_false (leb (length (sheet_text s)) n))

pub short_exactly : (s : Settings) (n : ℕ) → (wrote s n ≡ Err Short) ↔ ((accepted s ≡ true) × (n < length (sheet_text s)))
short_exactly s n = (
  λ e. ⊎_elim (λ a. (a, short_less s n a e)) (λ a. absurd (not_short s n a e)) (true_or_false (accepted s)),
  λ h. wrote_as s n h.0 ∙ rw (lt-leb (length (sheet_text s)) n h.1) refl,
)

pub untouched : (s : Settings) (out : List ℕ) → wrote s (length out) ≡ Err Short → sheet_in s out ≡ out
unfolding sheet_in
untouched s out e = let h = (short_exactly s (length out)).0 e in simp (h.0, lt-leb (length (sheet_text s)) (length out) h.1)
