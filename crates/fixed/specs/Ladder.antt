-- A ladder of numbers, which is how a table of refusals is written down: tests in their order, each with its number and what is answered with that
-- number. The first that applies decides; where none does the number is 0.
use Rattle.std.specs.Prelude.{ℕ, zero, suc, ◌≡◌, Bool, true, false, not, cond, ◌&&◌, List, [], ◌∷◌, ◌↔◌, eqb, ℤ, pos}

-- the number, and the answer with it, are given when the test holds, or unless it holds
pub data Rung (A : Type 0) : Type 0 where
  when : Bool → ℕ → (ℤ → A) → Rung A
  unless : Bool → ℕ → (ℤ → A) → Rung A

abbrev pub other : ℕ → ℕ → Bool
other n m = not (eqb m n)

module _ {A : Type 0} where
  abbrev pub gives : Rung A → ℕ
  gives (when test n x) = n
  gives (unless test n x) = n

  -- the rung decides, or lets pass
  abbrev pub Decides : Rung A → Type 0
  Decides (when test n x) = test ≡ true
  Decides (unless test n x) = test ≡ false

  abbrev pub Passes : Rung A → Type 0
  Passes (when test n x) = test ≡ false
  Passes (unless test n x) = test ≡ true

  -- the number that comes out
  abbrev pub first_of : List (Rung A) → ℕ
  first_of [] = 0
  first_of (when test n x ∷ rs) = cond test n (first_of rs)
  first_of (unless test n x ∷ rs) = cond test (first_of rs) n

  -- the answer, z where no rung decides
  abbrev pub answer_of : List (Rung A) → A → A
  answer_of [] z = z
  answer_of (when test n x ∷ rs) z = cond test (x (pos n)) (answer_of rs z)
  answer_of (unless test n x ∷ rs) z = cond test (answer_of rs z) (x (pos n))

  -- whether none decides
  abbrev pub all_pass : List (Rung A) → Bool
  all_pass [] = true
  all_pass (when test n x ∷ rs) = not test && all_pass rs
  all_pass (unless test n x ∷ rs) = test && all_pass rs

  -- the number at a place, counted from 0, and the answer there; past the last rung they are 0 and z
  abbrev pub number_at : List (Rung A) → ℕ → ℕ
  number_at [] i = 0
  number_at (r ∷ rs) zero = gives r
  number_at (r ∷ rs) (suc i) = number_at rs i

  abbrev pub answer_at : List (Rung A) → A → ℕ → A
  answer_at [] z i = z
  answer_at (when test n x ∷ rs) z zero = x (pos n)
  answer_at (unless test n x ∷ rs) z zero = x (pos n)
  answer_at (r ∷ rs) z (suc i) = answer_at rs z i

  -- a place is reached: every rung before it passes, and its own decides
  abbrev pub Reached : List (Rung A) → ℕ → Type 0
  Reached [] i = Unit
  Reached (r ∷ rs) zero = Decides r
  Reached (r ∷ rs) (suc i) = Passes r × Reached rs i

  -- an answer is the ladder's: each place's number is given exactly when the place is reached, and the answer is then the place's
  pub record Exactly (number : A → ℤ) (rs : List (Rung A)) (z answer : A) : Type 0 where
    pub given : (i : ℕ) → (number answer ≡ pos (number_at rs i)) ↔ Reached rs i
    pub then : (i : ℕ) → Reached rs i → answer ≡ answer_at rs z i

  -- ════ what the laws ask: a test passes 0 and each number; no number stands twice, and none is 0; each answer has its rung's number
  abbrev pub all_give : (ℕ → Bool) → List (Rung A) → Bool
  all_give p [] = p 0
  all_give p (r ∷ rs) = p (gives r) && all_give p rs

  abbrev pub distinct : List (Rung A) → Bool
  distinct [] = true
  distinct (r ∷ rs) = all_give (other (gives r)) rs && distinct rs

  abbrev pub Numbered : (A → ℤ) → List (Rung A) → A → Type 0
  Numbered number [] z = number z ≡ pos 0
  Numbered number (when test n x ∷ rs) z = (number (x (pos n)) ≡ pos n) × Numbered number rs z
  Numbered number (unless test n x ∷ rs) z = (number (x (pos n)) ≡ pos n) × Numbered number rs z

-- the same tests and numbers, each with one answer for all of them
abbrev pub answered_by : {A B : Type 0} → (ℤ → B) → List (Rung A) → List (Rung B)
answered_by x [] = []
answered_by x (when test n y ∷ rs) = when test n x ∷ answered_by x rs
answered_by x (unless test n y ∷ rs) = unless test n x ∷ answered_by x rs
