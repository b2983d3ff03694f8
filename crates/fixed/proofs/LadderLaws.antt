-- A ladder of numbers: which number comes out says which rung was the first to decide, and the other way round; what is answered then; and a
-- number that stands at no place is never given.
-- Assumes nothing.
use Prim.Native.Nat.{ℕ, zero, suc}
use native.Mathlib.Omega.{arith}
use borrow.Author.Tests.{lt-leb}
use mathlib.Core.Path.{◌≡◌, refl, sym, ◌∙◌, ap, subst}
use mathlib.Core.Bool.{Bool, true, false, not, cond, true≢false, false≢true}
use mathlib.Core.List.{List, [], ◌∷◌}
use mathlib.Core.Logic.{◌↔◌}
use lib.Dec.{T, eqb, eqb_refl}
use lib.IntN.{ℤ, pos, nat_abs}
use lib.ListN.{length}
use lib.Signed.{le_z}
use Rattle.fixed.specs.Ladder.{Rung, when, unless, gives, first_of, answer_of, all_pass, number_at}
use Rattle.fixed.specs.Ladder.{answer_at, Reached, Exactly, all_give, other, distinct, Numbered, answered_by}
use Rattle.fixed.proofs.HeldLaws.{and_left, and_right}

-- a number that is other than n is not n
differs : {B : Type 0} (n m : ℕ) → other n m ≡ true → m ≡ n → B
differs n m o e = absurd (by (eqb n n) (eqb_refl n) (subst (λ (k : ℕ). other n k ≡ true) e o))
  where
    by : (b : Bool) → T b → not b ≡ true → ⊥
    by true t u = false≢true u
    by false t u = t

-- nor is it 0 or below where it is other than 0
over : (n : ℕ) → other n 0 ≡ true → le_z (pos n) (pos 0) ≡ false
over zero o = absurd (false≢true o)
over (suc n) o = lt-leb (suc n) 0 (omega arith)

module _ {A : Type 0} where
  -- ════ what passes 0 and every number of a ladder passes the number that comes out, and the number at any place
  pub all_give_lem : (p : ℕ → Bool) (rs : List (Rung A)) → all_give p rs ≡ true → p (first_of rs) ≡ true
  all_give_lem p [] h = h
  all_give_lem p (when true n x ∷ rs) h = and_left (p n) _ h
  all_give_lem p (when false n x ∷ rs) h = all_give_lem p rs (and_right (p n) _ h)
  all_give_lem p (unless false n x ∷ rs) h = and_left (p n) _ h
  all_give_lem p (unless true n x ∷ rs) h = all_give_lem p rs (and_right (p n) _ h)

  all_at : (p : ℕ → Bool) (rs : List (Rung A)) (i : ℕ) → all_give p rs ≡ true → p (number_at rs i) ≡ true
  all_at p [] i h = h
  all_at p (r ∷ rs) zero h = and_left (p (gives r)) _ h
  all_at p (r ∷ rs) (suc i) h = all_at p rs i (and_right (p (gives r)) _ h)

  at_none : (p : ℕ → Bool) (rs : List (Rung A)) → all_give p rs ≡ true → p 0 ≡ true
  at_none p [] h = h
  at_none p (r ∷ rs) h = at_none p rs (and_right (p (gives r)) _ h)

  -- a number that stands at no place is never given
  pub never : (n : ℕ) (rs : List (Rung A)) → all_give (other n) rs ≡ true → first_of rs ≡ n → ⊥
  never n rs h e = differs n (first_of rs) (all_give_lem (other n) rs h) e

  -- ════ at each place its number is given exactly when the place is reached
  module _ (n : ℕ) (rs : List (Rung A)) (i : ℕ) (o : all_give (other n) rs ≡ true) where
    -- n stands first, and is no number of those after it
    elsewhere : {B : Type 0} → n ≡ number_at rs i → B
    elsewhere h = differs n (number_at rs i) (all_at (other n) rs i o) (sym h)

  exactly_of : (rs : List (Rung A)) → distinct rs ≡ true → (i : ℕ) → (first_of rs ≡ number_at rs i) ↔ Reached rs i
  exactly_of [] d i = (λ h. tt, λ h. refl)
  exactly_of (r ∷ rs) d i =
      by r i (and_left (all_give (other (gives r)) rs) (distinct rs) d) (exactly_of rs (and_right (all_give (other (gives r)) rs) (distinct rs) d))
    where
      by : (r : Rung A) (i : ℕ) → all_give (other (gives r)) rs ≡ true
          → ((i : ℕ) → (first_of rs ≡ number_at rs i) ↔ Reached rs i) → (first_of (r ∷ rs) ≡ number_at (r ∷ rs) i) ↔ Reached (r ∷ rs) i
      by (when true n x) zero o e = (λ h. refl, λ h. refl)
      by (when false n x) zero o e = (λ h. absurd (never n rs o h), λ h. absurd (false≢true h))
      by (when true n x) (suc i) o e = (λ h. elsewhere n rs i o h, λ h. absurd (true≢false h.0))
      by (when false n x) (suc i) o e = (λ h. (refl, (e i).0 h), λ h. (e i).1 h.1)
      by (unless false n x) zero o e = (λ h. refl, λ h. refl)
      by (unless true n x) zero o e = (λ h. absurd (never n rs o h), λ h. absurd (true≢false h))
      by (unless false n x) (suc i) o e = (λ h. elsewhere n rs i o h, λ h. absurd (false≢true h.0))
      by (unless true n x) (suc i) o e = (λ h. (refl, (e i).0 h), λ h. (e i).1 h.1)

  -- the answer is the place's
  answer_at_lem : (rs : List (Rung A)) (z : A) (i : ℕ) → Reached rs i → answer_of rs z ≡ answer_at rs z i
  answer_at_lem [] z i h = refl
  answer_at_lem (when test n x ∷ rs) z zero h = rw h refl
  answer_at_lem (unless test n x ∷ rs) z zero h = rw h refl
  answer_at_lem (when test n x ∷ rs) z (suc i) h = rw h.0 (answer_at_lem rs z i h.1)
  answer_at_lem (unless test n x ∷ rs) z (suc i) h = rw h.0 (answer_at_lem rs z i h.1)

  -- and its number the one that comes out
  answer_number : (number : A → ℤ) (rs : List (Rung A)) (z : A) → Numbered number rs z → number (answer_of rs z) ≡ pos (first_of rs)
  answer_number number [] z h = h
  answer_number number (when true n x ∷ rs) z h = h.0
  answer_number number (when false n x ∷ rs) z h = answer_number number rs z h.1
  answer_number number (unless false n x ∷ rs) z h = h.0
  answer_number number (unless true n x ∷ rs) z h = answer_number number rs z h.1

  -- ════ what holds of each rung's answer where it decides, and of z where none does, holds of the answer
  abbrev pub Each : (A → Type 0) → List (Rung A) → A → Type 0
  Each Q [] z = Q z
  Each Q (when test n x ∷ rs) z = (test ≡ true → Q (x (pos n))) × (test ≡ false → Each Q rs z)
  Each Q (unless test n x ∷ rs) z = (test ≡ false → Q (x (pos n))) × (test ≡ true → Each Q rs z)

  pub each : (Q : A → Type 0) (rs : List (Rung A)) (z : A) → Each Q rs z → Q (answer_of rs z)
  each Q [] z h = h
  each Q (when true n x ∷ rs) z h = h.0 refl
  each Q (when false n x ∷ rs) z h = each Q rs z (h.1 refl)
  each Q (unless false n x ∷ rs) z h = h.0 refl
  each Q (unless true n x ∷ rs) z h = each Q rs z (h.1 refl)

  -- ════ none decides exactly when the place past the last is reached
  pub all_pass_lem : (rs : List (Rung A)) → all_pass rs ≡ true ↔ Reached rs (length rs)
  all_pass_lem [] = (λ h. tt, λ h. refl)
  all_pass_lem (when true n x ∷ rs) = (λ h. absurd (false≢true h), λ h. absurd (true≢false h.0))
  all_pass_lem (when false n x ∷ rs) = let e = all_pass_lem rs in (λ h. (refl, e.0 h), λ h. e.1 h.1)
  all_pass_lem (unless false n x ∷ rs) = (λ h. absurd (false≢true h), λ h. absurd (false≢true h.0))
  all_pass_lem (unless true n x ∷ rs) = let e = all_pass_lem rs in (λ h. (refl, e.0 h), λ h. e.1 h.1)

  -- that is, exactly when the number is at most 0
  pub none_given : (rs : List (Rung A)) → distinct rs ≡ true → le_z (pos (first_of rs)) (pos 0) ≡ all_pass rs
  none_given [] h = refl
  none_given (when true n x ∷ rs) h = over n (at_none (other n) rs (and_left (all_give (other n) rs) _ h))
  none_given (when false n x ∷ rs) h = none_given rs (and_right (all_give (other n) rs) _ h)
  none_given (unless false n x ∷ rs) h = over n (at_none (other n) rs (and_left (all_give (other n) rs) _ h))
  none_given (unless true n x ∷ rs) h = none_given rs (and_right (all_give (other n) rs) _ h)

  -- ════ an answer that is the ladder's, with the numbers of its rungs, which differ
  pub record Climbs (number : A → ℤ) (rs : List (Rung A)) (z answer : A) : Type 0 where
    pub is : answer ≡ answer_of rs z
    pub numbered : Numbered number rs z
    pub apart : distinct rs ≡ true

  module _ {number : A → ℤ} {rs : List (Rung A)} {z answer : A} (c : Climbs number rs z answer) where
    number_is : number answer ≡ pos (first_of rs)
    number_is = ap number c.is ∙ answer_number number rs z c.numbered

    pub exactly : Exactly number rs z answer
    exactly = record {
      given = λ i. let e = exactly_of rs c.apart i in (λ h. e.0 (ap nat_abs (sym number_is ∙ h)), λ r. number_is ∙ ap pos (e.1 r));
      then = λ i r. c.is ∙ answer_at_lem rs z i r;
    }

    -- what passes 0 and every number of the ladder passes its number
    pub every : (p : ℤ → Bool) → all_give (λ n. p (pos n)) rs ≡ true → p (number answer) ≡ true
    every p h = rw number_is (all_give_lem (λ n. p (pos n)) rs h)

    pub holds : (Q : A → Type 0) → Each Q rs z → Q answer
    holds Q h = subst Q (sym c.is) (each Q rs z h)

-- ════ one answer for all numbers: it is given, with the number that comes out, where not all pass
pub answered_by_lem : {A B : Type 0} (x : ℤ → B) (rs : List (Rung A)) (z : B) → answer_of (answered_by x rs) z ≡ cond (all_pass rs) z (x (pos (first_of rs)))
answered_by_lem x [] z = refl
answered_by_lem x (when true n y ∷ rs) z = refl
answered_by_lem x (when false n y ∷ rs) z = answered_by_lem x rs z
answered_by_lem x (unless false n y ∷ rs) z = refl
answered_by_lem x (unless true n y ∷ rs) z = answered_by_lem x rs z
