-- What is fed an input piece by piece.
use Rattle.std.specs.Prelude.{◌≡◌, ℕ, Bool, List, [], ◌∷◌, ◌++◌, ℤ, refl}
use Rattle.std.proofs.Common.{sym, ap, subst, ◌∙◌, append_assoc}
use Rattle.feeding.specs.declared.Feeder.{Feeder}
use Rattle.feeding.specs.Feeding.{Fed, byte_fed, fed_of, Said}

-- by no bytes it stays, and answers nothing; by two pieces one after the other it becomes, and answers, what it does by the two joined
pub record FeedLaws {S : Type 0} (feeds : S → List ℕ → S → List ℕ → Type 0) : Type 0 where
  pub none : (s : S) → feeds s [] s []
  pub more : (s t u : S) (bs cs xs ys : List ℕ) → feeds s bs t xs → feeds t cs u ys → feeds s (bs ++ cs) u (xs ++ ys)

-- where it stands, in the words of `Feeding`
abbrev pub as_fed : {T : Type 0} → {n : ℕ} → Feeder T n → Fed T
as_fed s = record { kept = s.kept; reading = record { line = s.line; numbers = s.numbers }; begun = s.begun; stopped = s.stopped }

module _ {T : Type 0} (fits : List ℤ → Bool) (after : T → List ℤ → T) where
  pub fed_in_pieces : (s : Fed T) (xs ys : List ℕ) → fed_of fits after s (xs ++ ys) ≡ fed_of fits after (fed_of fits after s xs) ys
  unfolding fed_of
  fed_in_pieces s [] ys = refl
  fed_in_pieces s (x ∷ xs) ys = fed_in_pieces (byte_fed fits after s x) xs ys

  module _ (A : T → List ℤ → List ℕ → Type 0) where
    pub said_in_pieces : (s : Fed T) (bs cs xs ys : List ℕ)
        → Said fits after A s bs xs → Said fits after A (fed_of fits after s bs) cs ys → Said fits after A s (bs ++ cs) (xs ++ ys)
    unfolding fed_of Said
    said_in_pieces s [] cs xs ys p q = rw p q
    said_in_pieces s (b ∷ bs) cs xs ys p q =
        (p.0, p.1 ++ ys, p.2, said_in_pieces (byte_fed fits after s b) bs cs p.1 ys p.3 q, ap (λ (l : List ℕ). l ++ ys) p.4 ∙ append_assoc _ p.1 ys)

    abbrev pub Feeds : {n : ℕ} → Feeder T n → List ℕ → Feeder T n → List ℕ → Type 0
    Feeds s bs t text = (as_fed t ≡ fed_of fits after (as_fed s) bs) × Said fits after A (as_fed s) bs text

    pub feed_laws : {n : ℕ} → FeedLaws (Feeds {n = n})
    unfolding fed_of Said
    feed_laws {n} = record {
      none = λ s. (refl, refl);
      more = λ s t u bs cs xs ys p q. (
        q.0 ∙ ap (λ (x : Fed T). fed_of fits after x cs) p.0 ∙ sym (fed_in_pieces (as_fed s) bs cs),
        said_in_pieces (as_fed s) bs cs xs ys p.1 (subst (λ (x : Fed T). Said fits after A x cs ys) p.0 q.1),
      );
    }
