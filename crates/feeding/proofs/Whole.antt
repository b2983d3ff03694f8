-- Whatever chunks an input comes in, what stands after it and what is written of it is what `Lines` says of the input as a whole (`comes`).
-- Assumes nothing.
use mathlib.Core.Path.{◌≡◌, refl, sym, ◌∙◌, ap}
use mathlib.Core.Bool.{Bool, true, false}
use mathlib.Core.List.{List, [], ◌∷◌, ◌++◌}
use mathlib.Core.Option.{none, some}
use Prim.Native.Nat.{ℕ}
use lib.Dec.{eqb}
use lib.IntN.{ℤ}
use lib.ListN.{length}
use Rattle.text.specs.Automaton.{Reading, read_all, line_read}
use Rattle.text.proofs.Lines.{read_more}
use Rattle.fixed.proofs.Choice.{by_test}
use Rattle.feeding.specs.Lines.{lines_of, rest_of, any, good_in, good_then, good_of, bad_or, bad_of, after_all, answers_to}
use Rattle.feeding.specs.Feeding.{Fed, line_at, line_due, front, is_good, end_fed, end_text, byte_fed, byte_text, fed_of, text_fed}
use Rattle.feeding.proofs.Parts.{read_length}
use Rattle.feeding.proofs.Meaning.{Room, told, line_told}
use Rattle.feeding.proofs.Pieces.{stopped_at, end_good, end_bad, text_good, text_bad, fed_stopped, text_stopped}

any_more : (p : List ℕ) (b : ℕ) → any (p ++ (b ∷ [])) ≡ true
unfolding any
any_more [] b = refl
any_more (a ∷ p) b = refl

module _ {T : Type 0} (fits : List ℤ → Bool) (after : T → List ℤ → T) (answer : T → List ℤ → List ℕ) where
  -- the bytes p of a line came, over the numbers o
  abbrev within : T → List ℤ → List ℕ → Fed T
  within t o p = record { kept = t; reading = read_all (line_at o) p; begun = any p; stopped = false }

  -- what comes of s and the text x is what is said of the lines ws and the rest w
  pub record Comes (t : T) (s : Fed T) (x : List ℕ) (ws : List (List ℕ)) (w : List ℕ) : Type 0 where
    pub keeps : s.kept ≡ after_all after t (good_of fits ws)
    pub ends : s.begun ≡ bad_of fits ws w
    pub writes : x ≡ answers_to after answer t (good_of fits ws)

  abbrev Coming : T → Fed T → List ℕ → List (List ℕ) → List ℕ → Type 0
  Coming t s bs ws w = Comes t (fed_of fits after s bs) (text_fed fits after answer s bs) ws w

  -- any other byte than a line feed
  byte_on : (t : T) (o : List ℤ) (p : List ℕ) (b : ℕ) → eqb b 10 ≡ false → byte_fed fits after (within t o p) b ≡ within t o (p ++ (b ∷ []))
  unfolding byte_fed
  byte_on t o p b e = rw (e, read_more (line_at o) p b, any_more p b) refl

  at_byte : (t : T) (o : List ℤ) (p : List ℕ) (b : ℕ) (bs : List ℕ)
      → eqb b 10 ≡ false → Coming t (within t o (p ++ (b ∷ []))) bs (lines_of (p ++ (b ∷ [])) bs) (rest_of (p ++ (b ∷ [])) bs) →
      Coming t (within t o p) (b ∷ bs) (lines_of p (b ∷ bs)) (rest_of p (b ∷ bs))
  unfolding fed_of text_fed lines_of rest_of byte_text
  at_byte t o p b bs e c = rw (byte_on t o p b e, e) c

  -- a line has ended: a good one, behind which the others come, or the last that is looked at
  ended : (t : T) (r : Reading) (p bs : List ℕ) (ws : List (List ℕ)) (w : List ℕ)
      → told fits r ≡ good_in fits p → Coming (after t (front r)) (line_due (after t (front r)) r.numbers) bs ws w →
      Comes t (fed_of fits after (end_fed fits after t r) bs) (end_text fits answer t r ++ text_fed fits after answer (end_fed fits after t r) bs) (p ∷ ws) w
  unfolding good_of good_then bad_of bad_or after_all answers_to
  ended t r p bs ws w l c =
      by_test (is_good fits r)
      (λ y. let g : good_in fits p ≡ some (front r) = sym l ∙ rw y refl in
      let f = end_good fits after t r y in
      let x = text_good fits after answer t r y in
      record { keeps = rw (g, f) c.keeps; ends = rw (g, f) c.ends; writes = rw (g, f, x) (ap (λ (m : List ℕ). answer t (front r) ++ m) c.writes) })
      (λ n. let g : good_in fits p ≡ none = sym l ∙ rw n refl in
      let f = end_bad fits after t r n in
      let x = text_bad fits after answer t r n in
      let k = fed_stopped fits after (stopped_at t r) bs refl in
      let m = text_stopped fits after answer (stopped_at t r) bs refl in
      record { keeps = rw (g, f, k) refl; ends = rw (g, f, k) refl; writes = rw (g, f, x, m) refl })

  at_feed : (n : ℕ) → Room fits n → (t : T) (o : List ℤ) (p : List ℕ) (b : ℕ) (bs : List ℕ) → length o ≡ n → eqb b 10 ≡ true →
      ((u : T) (k : List ℤ) → length k ≡ n → Coming u (line_due u k) bs (lines_of [] bs) (rest_of [] bs)) →
      Coming t (within t o p) (b ∷ bs) (lines_of p (b ∷ bs)) (rest_of p (b ∷ bs))
  unfolding fed_of text_fed lines_of rest_of byte_fed byte_text line_read
  at_feed n room t o p b bs h e k =
      let r = line_read o p in
      rw e (ended t r p bs (lines_of [] bs) (rest_of [] bs) (line_told fits p o (rw h room)) (k (after t (front r)) r.numbers (read_length o p ∙ h)))

  lines : (n : ℕ) → Room fits n → (t : T) (o : List ℤ) (p bs : List ℕ) → length o ≡ n → Coming t (within t o p) bs (lines_of p bs) (rest_of p bs)
  unfolding fed_of text_fed lines_of rest_of good_of bad_of after_all answers_to read_all any
  lines n room t o p [] h = record { keeps = refl; ends = refl; writes = refl }
  lines n room t o p (b ∷ bs) h =
      by_test (eqb b 10)
      (λ e. at_feed n room t o p b bs h e (λ u k q. lines n room u k [] bs q))
      (λ e. at_byte t o p b bs e (lines n room t o (p ++ (b ∷ [])) bs h))

  -- the whole input, from before its first line
  pub comes : (t : T) (o : List ℤ) (input : List ℕ) → Room fits (length o) → Coming t (line_due t o) input (lines_of [] input) (rest_of [] input)
  unfolding read_all any
  comes t o input room = lines (length o) room t o [] input refl
