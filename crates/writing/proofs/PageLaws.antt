-- Laws of `Put`.
-- Assumes nothing.
use mathlib.Core.Path.{◌≡◌, refl, ap, ◌∙◌}
use mathlib.Core.List.{List, [], ◌∷◌, ◌++◌}
use Prim.Native.Nat.{ℕ, ◌+◌, ◌-◌, ◌≤◌, ◌<◌}
use native.Mathlib.Omega.{arith}
use native.Mathlib.Numerals.{add-one}
use lib.ListN.{length, get_or, take, drop, length-append, length-take, length-drop, take-append-drop}
use lib.Seq.{take-suc, drop-drop, take_all}
use borrow.Rule.Slice.PartMut.{put_mid}
use Rattle.writing.specs.declared.Page.{Page}
use Rattle.writing.specs.Page.{Put, Room}
use Rattle.writing.specs.Decimal.{written}
use Rattle.writing.proofs.Written.{written_none, written_length, written_then}

-- what is shown of the bytes and the place is all there is to show where there is room
pub puts : {p q : Page} {bs : List ℕ} → Room p (length bs)
    → q.out.ghost_name ≡ p.out.ghost_name → q.at ≡ p.at + length bs → q.out.now ≡ written p.out.now p.at bs → Put p q bs
puts {p} {q} {bs} h s a b =
    let l : length q.out.now ≡ length p.out.now = rw b (written_length p.out.now bs p.at h) in
    record { same = s; place = a; long = l; within = omega (arith, l, a, h); bytes = b }

pub none : (p : Page) → Room p 0 → Put p p []
none p h = puts h refl (omega arith) (written_none _ _)

-- one text, and the next behind it
pub then : {p q r : Page} {xs ys : List ℕ} → Put p q xs → Put q r ys → Put p r (xs ++ ys)
then {p} {q} {r} {xs} {ys} a b =
    let l : p.at + length xs + length ys ≤ length p.out.now = omega (arith, a.place, a.long, b.place, b.long, b.within) in
    record {
      same = b.same ∙ a.same;
      place = simp length-append (omega (arith, a.place, b.place));
      long = b.long ∙ a.long;
      within = b.within;
      bytes = b.bytes ∙ rw (a.bytes, a.place) (written_then p.out.now xs ys p.at l);
    }

-- the first bytes of a list, and the next one
pub then_next : {p q r : Page} (bs : List ℕ) (i : ℕ) → i < length bs → Put p q (take i bs) → Put q r (get_or bs i 0 ∷ []) → Put p r (take (i + 1) bs)
then_next bs i h a b = rw (add-one, take-suc bs i 0) (then a b)

-- what is left where as many places as there are bytes were lent for them
pub copied : (o : List ℕ) (at n : ℕ) {bs now : List ℕ} → now ≡ bs → n ≡ length bs → put_mid at (at + n - at) o now ≡ written o at bs
unfolding written
copied o at n {bs} e l = let k : at + n - at ≡ n = omega arith in rw (e, k, drop-drop, l) refl

-- the same where the first k bytes are copied, and the others behind them
pub copied_parts : (o : List ℕ) (at k n : ℕ) (bs : List ℕ) {x y : List ℕ} → k ≤ n → n ≡ length bs → at + n ≤ length o → x ≡ take k bs
    → y ≡ take (n - k) (drop k bs) → put_mid (at + k) (at + n - (at + k)) (put_mid at (at + k - at) o x) y ≡ written o at bs
copied_parts o at k n bs {x} {y} h l r e f =
    let i : k ≡ length x = omega (arith, ap length e, length-take k bs) in
    let j : n - k ≡ length y = omega (arith, ap length f, length-take (n - k) (drop k bs), length-drop k bs) in
    let both : x ++ y ≡ bs = rw (e, f, take_all (n - k) (drop k bs) (omega (arith, length-drop k bs))) (take-append-drop k bs) in
    let m : at + n - (at + k) ≡ at + k + (n - k) - (at + k) = omega arith in
    rw (copied o at k refl i, m, copied (written o at x) (at + k) (n - k) refl j)
    (rw i (written_then o x y at (omega arith)) ∙ ap (written o at) both)

-- the same, of a text that is the two together
pub then_is : {p q r : Page} {xs ys zs : List ℕ} → Put p q xs → Put q r ys → zs ≡ xs ++ ys → Put p r zs
then_is a b e = rw e (then a b)
