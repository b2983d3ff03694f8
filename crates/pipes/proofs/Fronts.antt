-- What a writer took, as a front of what it was handed: where bs is sent, front is what it took so far, and rest is left.
-- Assumes nothing.
use Rattle.std.proofs.Common.{◌≡◌, ℕ, ◌+◌, ◌-◌, ◌≤◌, ◌<◌, List, [], ◌++◌, length, take, drop, subst, sym, ap, refl, ◌∙◌, arith, append_assoc, append-nil, length-append, take-append-drop}
use Rattle.std.specs.Prelude.{Option}
use Rattle.std.specs.Io.KnownBytes.{Appends, Keeps}
use Rattle.std.proofs.Math.Seq.{take-add}
use Rattle.std.proofs.lemmas.List.{take_all, take_at, drop_at, take-append-le, length-drop}
use Rattle.std.proofs.KnownBytes.{Appends-nil, Appends-trans, Appends-kept}
use Rattle.writing.specs.declared.Page.{Page}
use Rattle.writing.specs.Page.{Put}
use Rattle.writing.specs.Decimal.{written}
use Rattle.pipes.specs.Counts.{AppendsFront, AppendsLess}

-- so many bytes of those behind a place are within what there is
pub within : (xs : List ℕ) (d n : ℕ) → d ≤ length xs → n ≤ length (take (length xs - d) (drop d xs)) → d + n ≤ length xs
within xs d n h l = omega (arith, h, l, length-drop d xs, ap length (take_all (length xs - d) (drop d xs) (omega (arith, length-drop d xs))))

-- what a write that failed took
pub kept_none : (b c : Option (List ℕ)) → Keeps b c → Appends b c []
kept_none b c k = Appends-kept b b c [] (Appends-nil b) k

pub less_front : (a c : Option (List ℕ)) (bs : List ℕ) (n : ℕ) → AppendsLess a c bs n → AppendsFront a c bs n
less_front a c bs m (n, l, h) = (n, omega arith, h)

module _ (a b c : Option (List ℕ)) (bs front rest : List ℕ) (is : bs ≡ front ++ rest) (sent : Appends a b front) where
  -- nothing more was taken, and something is left
  pub front_less : Appends b c [] → 0 < length rest → AppendsLess a c bs (length bs)
  front_less h l =
      let at : take (length front) bs ≡ front ++ [] = ap (take (length front)) is ∙ take_at front rest (length front) refl ∙ sym (append-nil front) in
      (length front, rw (is, length-append) (omega arith), subst (Appends a c) (sym at) (Appends-trans a b c front [] sent h))

  -- n bytes more were taken
  pub front_more : (n : ℕ) → n ≤ length rest → Appends b c (take n rest)
      → (x : List ℕ) × (bs ≡ x ++ take (length rest - n) (drop n rest)) × Appends a c x
  front_more n l h =
      let left : take (length rest - n) (drop n rest) ≡ drop n rest = take_all (length rest - n) (drop n rest) (omega (arith, length-drop n rest)) in (
        front ++ take n rest,
        is ∙ ap (λ (xs : List ℕ). front ++ xs) (sym (take-append-drop n rest)) ∙ sym (append_assoc front (take n rest) (drop n rest)) ∙ ap (λ (xs : List ℕ). (front ++ take n rest) ++ xs) (sym left),
        Appends-trans a b c front (take n rest) sent h,
      )

-- ════ two texts one behind the other
-- a front of the first is a front of both
pub front_first : (a c : Option (List ℕ)) (xs ys : List ℕ) → AppendsFront a c xs (length xs) → AppendsFront a c (xs ++ ys) (length (xs ++ ys))
front_first a c xs ys (n, l, h) = (n, omega (arith, l, length-append xs ys), subst (Appends a c) (sym (take-append-le n xs ys l)) h)

second_taken : (xs ys : List ℕ) (n : ℕ) → take (length xs + n) (xs ++ ys) ≡ xs ++ take n ys
second_taken xs ys n = take-add (length xs) n (xs ++ ys) ∙ rw (take_at xs ys (length xs) refl, drop_at xs ys (length xs) refl) refl

-- the first, and a front of the second
pub front_second : (a b c : Option (List ℕ)) (xs ys : List ℕ) → Appends a b xs → AppendsFront b c ys (length ys) → AppendsFront a c (xs ++ ys) (length (xs ++ ys))
front_second a b c xs ys h (n, l, k) =
    (length xs + n, omega (arith, l, length-append xs ys), subst (Appends a c) (sym (second_taken xs ys n)) (Appends-trans a b c xs (take n ys) h k))

-- the first, and less than the second
pub less_second : (a b c : Option (List ℕ)) (xs ys : List ℕ) → Appends a b xs → AppendsLess b c ys (length ys)
    → (n : ℕ) × (length xs ≤ n) × (n < length (xs ++ ys)) × Appends a c (take n (xs ++ ys))
less_second a b c xs ys h (n, l, k) =
    (length xs + n, omega arith, omega (arith, l, length-append xs ys), subst (Appends a c) (sym (second_taken xs ys n)) (Appends-trans a b c xs (take n ys) h k))

-- what stands on a page, from its first place up to where it is, is what was put on it
page_front : (p q : Page) (xs out : List ℕ) (n : ℕ) → Put p q xs → p.at ≡ 0 → n ≡ q.at → out ≡ q.out.now → take n out ≡ xs
unfolding written
page_front p q xs out n put first at is =
    rw (at, is, put.place, put.bytes, first) (take_at xs (drop (0 + length xs) p.out.now) (0 + length xs) (omega arith))

-- so that is what is sent of it, or a front of that
pub page_sent : (v w : Option (List ℕ)) (p q : Page) (xs out : List ℕ) (n : ℕ)
    → Put p q xs → p.at ≡ 0 → n ≡ q.at → out ≡ q.out.now → Appends v w (take n out) → Appends v w xs
page_sent v w p q xs out n put first at is sent = subst (Appends v w) (page_front p q xs out n put first at is) sent

pub page_part : (v w : Option (List ℕ)) (p q : Page) (xs out : List ℕ) (n : ℕ)
    → Put p q xs → p.at ≡ 0 → n ≡ q.at → out ≡ q.out.now → AppendsFront v w (take n out) (length (take n out)) → AppendsFront v w xs (length xs)
page_part v w p q xs out n put first at is part =
    subst (λ (bs : List ℕ). AppendsFront v w bs (length bs)) (page_front p q xs out n put first at is) part

pub page_less : (v w : Option (List ℕ)) (p q : Page) (xs out : List ℕ) (n : ℕ)
    → Put p q xs → p.at ≡ 0 → n ≡ q.at → out ≡ q.out.now → AppendsLess v w (take n out) (length (take n out)) → AppendsLess v w xs (length xs)
page_less v w p q xs out n put first at is less =
    subst (λ (bs : List ℕ). AppendsLess v w bs (length bs)) (page_front p q xs out n put first at is) less
