-- Read after read is gathered, and what is said of it is said of the whole input.
-- Assumes nothing.
use Rattle.std.proofs.Common.{◌≡◌, ℕ, ◌+◌, ◌≤◌, List, ◌++◌, length, take, refl, sym, ap, ap₂, subst, ◌∙◌, arith, append-nil}
use Rattle.std.specs.Prelude.{Option, None, Some, IfSome}
use Rattle.std.specs.Io.KnownBytes.{Appends, Consumes, IsAtEnd}
use Rattle.std.proofs.KnownBytes.{Consumes-trans}
use Rattle.std.proofs.Math.Seq.{take-add}
use Rattle.std.proofs.lemmas.List.{take_at, drop_at, take-append-le, length-take-le}
use borrow.Rule.Slice.PartMut.{put_mid, post_of}
use Rattle.fixed.proofs.Choice.{by_order}
use Rattle.findings.specs.Findings.{answer_text}
use Rattle.findings.proofs.Promises.{unread_changes_nothing}
use Rattle.read_sheet.specs.Gathering.{Gathering}

-- what is read behind a front makes it longer
front_longer : (text now : List ℕ) (at k n : ℕ) → at ≤ length text → n ≤ length now → take (at + n) (put_mid at k text now) ≡ take at text ++ take n now
front_longer text now at k n h l =
    let a = take at text in
    let b = now ++ post_of at k text in
    let w : at ≡ length a = sym (length-take-le at text h) in
    take-add at n (put_mid at k text now) ∙ ap₂ (λ (xs ys : List ℕ). xs ++ ys) (take_at a b at (sym w)) (ap (take n) (drop_at a b at (sym w)) ∙ take-append-le n now (post_of at k text) l)

-- one read more, of n bytes
pub read_more : (f g h : Option (List ℕ)) (text now : List ℕ) (at k n : ℕ) → at ≤ length text → n ≤ length now
    → Consumes f g (take at text) → Consumes g h (take n now) → Consumes f h (take (at + n) (put_mid at k text now))
read_more f g h text now at k n low l read more = subst (Consumes f h) (sym (front_longer text now at k n low l)) (Consumes-trans f g h _ _ read more)

-- what is said of what was read is said of the input: it is all of it, or it is enough
said : (g : Option (List ℕ)) (text input : List ℕ) (size : ℕ) → size ≤ length text → Consumes (Some input) g (take size text) → (size ≤ 3072 → IsAtEnd g)
    → answer_text (take size text) ≡ answer_text input
said None text input size fits c ends = absurd c
said (Some ys) text input size fits c ends =
    let bs = take size text in
    let l : length bs ≡ size = length-take-le size text fits in
    by_order 3072 size
    (λ more. let n : 500 ≤ length bs = omega (arith, l, more) in
    ap answer_text (sym (take_at bs ys (length bs) refl)) ∙ ap (λ (xs : List ℕ). answer_text (take (length bs) xs)) (sym c)
    ∙ unread_changes_nothing input (length bs) n)
    (λ few. ap answer_text (sym (c ∙ ap (λ (xs : List ℕ). bs ++ xs) (ends few) ∙ append-nil bs)))

pub answered : (f g v w : Option (List ℕ)) (text : List ℕ) (size : ℕ) → Gathering f g text size → Appends v w (answer_text (take size text))
    → IfSome f (λ input. Appends v w (answer_text input))
answered None g v w text size t sent = tt
answered (Some input) g v w text size t sent = subst (Appends v w) (said g text input size t.fits t.read t.ends) sent
