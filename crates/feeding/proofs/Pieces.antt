-- Bytes in pieces are the same bytes: of what stands after them, and of what is written. A line's end, and what comes once stopped.
-- Assumes nothing.
use mathlib.Core.Path.{◌≡◌, refl, sym, ◌∙◌, ap}
use mathlib.Core.Bool.{Bool, true, false, true≢false}
use mathlib.Core.List.{List, [], ◌∷◌, ◌++◌, append_assoc}
use Prim.Native.Nat.{ℕ}
use lib.Dec.{eqb}
use lib.IntN.{ℤ}
use Rattle.fixed.proofs.Choice.{by_test}
use Rattle.text.specs.Automaton.{Reading, read_next, read_end}
use Rattle.feeding.specs.Feeding.{Fed, line_due, front, is_good, end_fed, end_text, byte_fed, byte_text, fed_of, text_fed, ends_good, Said}
pub use Rattle.feeding.specs.Feeds.{fed_in_pieces}

-- once a bad line came
abbrev pub stopped_at : {T : Type 0} → T → Reading → Fed T
stopped_at t r = record { kept = t; reading = r; begun = true; stopped = true }

module _ {T : Type 0} (fits : List ℤ → Bool) (after : T → List ℤ → T) where
  pub end_good : (t : T) (r : Reading) → is_good fits r ≡ true → end_fed fits after t r ≡ line_due (after t (front r)) r.numbers
  unfolding end_fed
  end_good t r e = rw e refl

  pub end_bad : (t : T) (r : Reading) → is_good fits r ≡ false → end_fed fits after t r ≡ stopped_at t r
  unfolding end_fed
  end_bad t r e = rw e refl

  -- once stopped, nothing more comes of any bytes
  stays : (s : Fed T) (b : ℕ) → s.stopped ≡ true → byte_fed fits after s b ≡ s
  unfolding byte_fed
  stays s b h = rw h refl

  pub fed_stopped : (s : Fed T) (bs : List ℕ) → s.stopped ≡ true → fed_of fits after s bs ≡ s
  unfolding fed_of
  fed_stopped s [] h = refl
  fed_stopped s (b ∷ bs) h = rw (stays s b h) (fed_stopped s bs h)

module _ {T : Type 0} (fits : List ℤ → Bool) (after : T → List ℤ → T) (answer : T → List ℤ → List ℕ) where
  pub text_good : (t : T) (r : Reading) → is_good fits r ≡ true → end_text fits answer t r ≡ answer t (front r)
  unfolding end_text
  text_good t r e = rw e refl

  pub text_bad : (t : T) (r : Reading) → is_good fits r ≡ false → end_text fits answer t r ≡ []
  unfolding end_text
  text_bad t r e = rw e refl

  pub text_in_pieces : (s : Fed T) (xs ys : List ℕ)
      → text_fed fits after answer s (xs ++ ys) ≡ text_fed fits after answer s xs ++ text_fed fits after answer (fed_of fits after s xs) ys
  unfolding fed_of text_fed
  text_in_pieces s [] ys = refl
  text_in_pieces s (x ∷ xs) ys =
      ap (λ (t : List ℕ). byte_text fits answer s x ++ t) (text_in_pieces (byte_fed fits after s x) xs ys) ∙ sym (append_assoc (byte_text fits answer s x) _ _)

  silent : (s : Fed T) (b : ℕ) → s.stopped ≡ true → byte_text fits answer s b ≡ []
  unfolding byte_text
  silent s b h = rw h refl

  pub text_stopped : (s : Fed T) (bs : List ℕ) → s.stopped ≡ true → text_fed fits after answer s bs ≡ []
  unfolding text_fed
  text_stopped s [] h = refl
  text_stopped s (b ∷ bs) h = rw (stays fits after s b h, silent s b h) (text_stopped s bs h)

-- ════ where an answer is one of those that A says
module _ {T : Type 0} (fits : List ℤ → Bool) (after : T → List ℤ → T) (A : T → List ℤ → List ℕ → Type 0) where
  -- a line feed ends the line
  pub said_end : (s : Fed T) (b : ℕ) (bs y z : List ℕ) → s.stopped ≡ false → eqb b 10 ≡ true
      → (is_good fits (read_end s.reading) ≡ true → A s.kept (front (read_end s.reading)) y)
      → Said fits after A (end_fed fits after s.kept (read_end s.reading)) bs z
      → Said fits after A s (b ∷ bs) (end_text fits (λ t l. y) s.kept (read_end s.reading) ++ z)
  unfolding Said byte_fed byte_text
  said_end s b bs y z h e a k = rw (h, e) (y, z, a, k, refl)

  -- any other byte goes to it
  pub said_on : (s : Fed T) (b : ℕ) (bs z : List ℕ) → s.stopped ≡ false → eqb b 10 ≡ false
      → Said fits after A (record { kept = s.kept; reading = read_next s.reading b; begun = true; stopped = false }) bs z → Said fits after A s (b ∷ bs) z
  unfolding Said byte_fed byte_text
  said_on s b bs z h e k = rw (h, e) ([], z, (λ x. absurd (true≢false (sym x))), k, refl)

  pub said_stopped : (s : Fed T) (bs : List ℕ) → s.stopped ≡ true → Said fits after A s bs []
  unfolding Said byte_text
  said_stopped s [] h = refl
  said_stopped s (b ∷ bs) h =
      rw (stays fits after s b h) ([], [], (λ x. absurd (true≢false (sym x ∙ rw h refl))), said_stopped s bs h, rw h refl)

module _ {T : Type 0} (fits : List ℤ → Bool) (after : T → List ℤ → T) (answer : T → List ℤ → List ℕ) where
  byte_said : (s : Fed T) (b : ℕ) (y : List ℕ) → (ends_good fits s b ≡ true → y ≡ answer s.kept (front (read_end s.reading)))
      → byte_text fits (λ t l. y) s b ≡ byte_text fits answer s b
  unfolding byte_text end_text
  byte_said s b y h =
      by_test s.stopped
      (λ p. rw p refl)
      (λ p. by_test (eqb b 10)
      (λ q. by_test (is_good fits (read_end s.reading)) (λ r. rw (p, q, r) (h (rw (p, q, r) refl))) (λ r. rw (p, q, r) refl))
      (λ q. rw (p, q) refl))

  -- where it says one text alone, that is the text
  pub said_is : (s : Fed T) (bs x : List ℕ) → Said fits after (λ t l y. y ≡ answer t l) s bs x → x ≡ text_fed fits after answer s bs
  unfolding Said text_fed
  said_is s [] x h = h
  said_is s (b ∷ bs) x h = h.4 ∙ rw (byte_said s b h.0 h.2) (ap (λ (l : List ℕ). byte_text fits answer s b ++ l) (said_is (byte_fed fits after s b) bs h.1 h.3))
