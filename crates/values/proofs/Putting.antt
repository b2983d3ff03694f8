-- Writing a value: the digits behind a point, and how long a value is.
-- Assumes nothing.
use mathlib.Core.Path.{◌≡◌, refl, ap, sym, ◌∙◌}
use mathlib.Core.List.{List, [], ◌∷◌, ◌++◌, append_assoc, append-nil}
use mathlib.Core.Logic.{⊎_elim}
use Prim.Native.Nat.{ℕ, suc, ◌+◌, ◌-◌, ◌*◌, ◌/◌, ◌%◌, ◌^◌, ◌≤◌, ◌<◌}
use native.Mathlib.Omega.{arith}
use lib.Dec.{eqb}
use lib.ListN.{length, length-append}
use Rattle.writing.specs.declared.Page.{Page}
use Rattle.writing.specs.Page.{Put, Room}
use Rattle.writing.proofs.PageLaws.{none, then}
use Rattle.fixed.proofs.Choice.{true_or_false, less_or_not}
use Rattle.writing.proofs.DecimalLaws.{count_length}
use Rattle.values.specs.Value.{fraction_digits, fraction_text, gain_text}
use Rattle.values.proofs.ValueLaws.{digit_next_lem, none_left, even_none, rest_even, division_length}

-- ════ long division
-- what stands once some digits are put: those that are left make what is left
pub record Dividing (f : ℕ) (p : Page) (rest : ℕ) (q : Page) : Type 0 where
  pub k : ℕ
  pub m : ℕ
  pub done : List ℕ
  pub sum : q.at + k ≡ p.at + 12
  pub room : Room q k
  pub small : rest < 4096
  pub even : rest * 10 ^ k ≡ m * 4096
  pub digits : fraction_digits 12 f ≡ done ++ fraction_digits k rest
  pub wrote : Put p q done

pub dividing_start : (f : ℕ) (p : Page) → f < 4096 → Room p 12 → Dividing f p f p
dividing_start f p h r = record {
  k = 12;
  m = f * 244140625;
  done = [];
  sum = refl;
  room = r;
  small = h;
  even = omega arith;
  digits = refl;
  wrote = none p (omega arith);
}

module _ {f rest : ℕ} {p q : Page} (s : Dividing f p rest q) where
  -- while something is left, digits are
  pub dividing_left : 0 < rest → 0 < s.k
  dividing_left h =
      ⊎_elim (λ k. k)
      (λ k. let z : s.k ≡ 0 = omega arith in absurd (omega (arith, h, even_none rest s.m s.small (rw z at s.even))))
      (less_or_not 0 s.k)

  pub dividing_more : 0 < rest → {r : Page} → Put q r ((48 + rest * 10 / 4096) ∷ []) → Dividing f p (rest * 10 % 4096) r
  dividing_more h w =
      let j = s.k - 1 in
      let e : s.k ≡ suc j = omega (arith, dividing_left h) in
      let d = 48 + rest * 10 / 4096 in
      record {
        k = j;
        m = s.m - rest * 10 / 4096 * 10 ^ j;
        done = s.done ++ (d ∷ []);
        sum = omega (arith, s.sum, e, w.place);
        room = omega (arith, s.room, e, w.place, w.long);
        small = omega arith;
        even = rest_even j rest s.m (ap (λ (k : ℕ). rest * 10 ^ k) (sym e) ∙ s.even);
        digits =
            s.digits
            ∙ ap (λ (l : List ℕ). s.done ++ l) (ap (λ (k : ℕ). fraction_digits k rest) e ∙ digit_next_lem j rest h)
            ∙ sym (append_assoc s.done (d ∷ []) (fraction_digits j (rest * 10 % 4096)));
        wrote = then s.wrote w;
      }

  pub dividing_end : rest ≤ 0 → Put p q (fraction_digits 12 f)
  dividing_end h =
      let z : rest ≡ 0 = omega arith in
      let e : fraction_digits 12 f ≡ s.done =
      s.digits ∙ ap (λ (l : List ℕ). s.done ++ l) (ap (fraction_digits s.k) z ∙ none_left s.k) ∙ append-nil s.done in
      rw e s.wrote

-- ════ how long a value is
pub fraction_length : (f : ℕ) → length (fraction_text f) ≤ 13
unfolding fraction_text
fraction_length f = ⊎_elim (λ e. rw e (omega arith)) (λ e. rw e (omega (arith, division_length 12 f))) (true_or_false (eqb f 0))

pub gain_length : (w : ℕ) → w < 2 ^ 64 → length (gain_text w) ≤ 33
unfolding gain_text
gain_length w h = simp length-append (omega (arith, count_length (w / 4096) (omega arith), fraction_length (w % 4096)))
