-- A chunk is fed line by line: what stands once some of its bytes were fed, and what is written of them.
-- Assumes nothing.
use mathlib.Core.Path.{◌≡◌, refl, sym, ◌∙◌, ap}
use mathlib.Core.Bool.{Bool, true, false, cond, ◌&&◌, true≢false}
use mathlib.Core.List.{List, [], ◌∷◌, ◌++◌, append_assoc, append-nil}
use Prim.Native.Nat.{ℕ, ◌+◌, ◌*◌, ◌≤◌, ◌<◌}
use native.Mathlib.Nat.{mul-suc, mul-le-mul_left}
use native.Mathlib.Omega.{arith}
use lib.Dec.{eqb}
use lib.IntN.{ℤ}
use lib.ListN.{length}
use Rattle.std.proofs.lemmas.List.{nil_from_length}
use Rattle.fixed.proofs.HeldLaws.{and_left, and_right}
use Rattle.text.specs.Automaton.{Reading, read_next}
use Rattle.writing.specs.declared.Page.{Page}
use Rattle.writing.specs.Page.{Put, Room}
use Rattle.fixed.proofs.Choice.{by_test}
use Rattle.writing.proofs.PageLaws.{none, then}
use Rattle.feeding.specs.Feeding.{Part, part_of, Fed, line_due, front, is_good, end_fed, end_text, byte_fed, fed_of, Said}
use Rattle.feeding.proofs.Parts.{part_length, part_count}
use Rattle.feeding.proofs.Pieces.{end_good, end_bad, fed_stopped, said_end, said_on, said_stopped}

-- ════ a part of a line
-- what it leaves of what is kept, where the line goes on or is bad
abbrev part_at : {T : Type 0} → T → Part → Fed T
part_at t p = record { kept = t; reading = p.reading; begun = true; stopped = p.ended }

-- of a line that was ended and is not bad, no more numbers are counted than there are
pub count_within : (r : Reading) (bs : List ℕ) {p : Part} → part_of r bs ≡ p
    → p.ended ≡ true → p.reading.line.bad ≡ false → p.reading.line.count ≤ length p.reading.numbers
count_within r bs {p} e x y =
    let c : p.reading.line.count ≤ length r.numbers = rw e at
    (part_count r bs (ap (λ (z : Part). z.ended) e ∙ x) (ap (λ (z : Part). z.reading.line.bad) e ∙ y)) in
    let l : length p.reading.numbers ≡ length r.numbers = rw e at (part_length r bs) in
    omega (arith, c, l)

module _ {T : Type 0} (fits : List ℤ → Bool) (after : T → List ℤ → T) where
  -- what it makes of what is kept
  part_fed : T → Part → Fed T
  part_fed t p = cond p.ended (end_fed fits after t p.reading) (part_at t p)

  part_fed_lem : (s : Fed T) (b : ℕ) (bs : List ℕ) → s.stopped ≡ false →
      fed_of fits after s (b ∷ bs) ≡ fed_of fits after (part_fed s.kept (part_of s.reading (b ∷ bs))) (part_of s.reading (b ∷ bs)).behind
  unfolding fed_of part_of part_fed byte_fed
  part_fed_lem s b [] h = by_test (eqb b 10) (λ e. rw (h, e) refl) (λ e. rw (h, e) refl)
  part_fed_lem s b (c ∷ cs) h =
      by_test (eqb b 10)
      (λ e. rw (h, e) refl)
      (λ e. rw (h, e) (part_fed_lem (record { kept = s.kept; reading = read_next s.reading b; begun = true; stopped = false }) c cs refl))

  part_good : (t : T) (p : Part) → p.ended && is_good fits p.reading ≡ true → part_fed t p ≡ line_due (after t (front p.reading)) p.reading.numbers
  unfolding part_fed
  part_good t p g = rw (and_left p.ended _ g) (end_good fits after t p.reading (and_right p.ended _ g))

  part_else : (t : T) (p : Part) → p.ended && is_good fits p.reading ≡ false → part_fed t p ≡ part_at t p
  unfolding part_fed
  part_else t p g = by_test p.ended (λ e. rw (e, end_bad fits after t p.reading (rw e at g)) refl) (λ e. rw e refl)

  -- ════ what stands once some bytes of a chunk made cur of s, and rest is left: what is left makes of cur what all makes of s
  pub record Upto (s : Fed T) (chunk : List ℕ) (cur : Fed T) (rest : List ℕ) : Type 0 where
    pub wide : length cur.reading.numbers ≡ length s.reading.numbers
    pub same : fed_of fits after s chunk ≡ fed_of fits after cur rest

  pub upto_start : (s : Fed T) (chunk : List ℕ) → Upto s chunk s chunk
  upto_start s chunk = record { wide = refl; same = refl }

  fed_ahead : (cur : Fed T) (rest : List ℕ) → 0 < length rest → cur.stopped ≡ false →
      fed_of fits after cur rest ≡ fed_of fits after (part_fed cur.kept (part_of cur.reading rest)) (part_of cur.reading rest).behind
  fed_ahead cur [] h g = absurd (omega (arith, h))
  fed_ahead cur (b ∷ bs) h g = part_fed_lem cur b bs g

  -- a part p of the line was fed
  module _ {s : Fed T} {chunk : List ℕ} {cur : Fed T} {rest : List ℕ} {p : Part} (u : Upto s chunk cur rest) (h : 0 < length rest)
      (g : cur.stopped ≡ false) (e : part_of cur.reading rest ≡ p) where
    upto_part : {n : Fed T} → part_fed cur.kept p ≡ n → n.reading.numbers ≡ p.reading.numbers → Upto s chunk n p.behind
    upto_part {n} f w = record {
      wide = ap length (w ∙ ap (λ (z : Part). z.reading.numbers) (sym e)) ∙ part_length cur.reading rest ∙ u.wide;
      same = u.same ∙ fed_ahead cur rest h g ∙ rw (e, f) refl;
    }

    -- it ends a good line
    pub upto_good : p.ended && is_good fits p.reading ≡ true → Upto s chunk (line_due (after cur.kept (front p.reading)) p.reading.numbers) p.behind
    upto_good f = upto_part (part_good cur.kept p f) refl

    -- it ends none, or the line goes on
    pub upto_else : p.ended && is_good fits p.reading ≡ false → Upto s chunk (part_at cur.kept p) p.behind
    upto_else f = upto_part (part_else cur.kept p f) refl

  -- the end: of the chunk, or at a bad line
  pub upto_past : {s : Fed T} {chunk : List ℕ} {cur : Fed T} {rest : List ℕ} → Upto s chunk cur rest → length rest ≡ 0 → cur ≡ fed_of fits after s chunk
  unfolding fed_of
  upto_past {rest = rest} u e = sym (u.same ∙ rw (nil_from_length rest e) refl)

  pub upto_stopped : {s : Fed T} {chunk : List ℕ} {cur : Fed T} {rest : List ℕ} → Upto s chunk cur rest → cur.stopped ≡ true → cur ≡ fed_of fits after s chunk
  upto_stopped {cur = cur} {rest} u h = sym (u.same ∙ fed_stopped fits after cur rest h)

-- ════ the same of what is written
-- room for m bytes a byte
far : (m i j : ℕ) → i < j → m * i + m ≤ m * j
far m i j h = rw (← mul-suc m i) (mul-le-mul_left m h)

module _ {T : Type 0} (fits : List ℤ → Bool) (after : T → List ℤ → T) (A : T → List ℤ → List ℕ → Type 0) where
  -- what is written of a part, where y is the answer
  part_text : List ℕ → T → Part → List ℕ
  part_text y t p = cond p.ended (end_text fits (λ k l. y) t p.reading) []

  abbrev PartSaid : Fed T → List ℕ → Type 0
  PartSaid s bs =
      let p = part_of s.reading bs in
      (y z : List ℕ) → (p.ended && is_good fits p.reading ≡ true → A s.kept (front p.reading) y) → Said fits after A (part_fed fits after s.kept p) p.behind z →
      Said fits after A s bs (part_text y s.kept p ++ z)

  part_said : (s : Fed T) (b : ℕ) (bs : List ℕ) → s.stopped ≡ false → PartSaid s (b ∷ bs)
  unfolding part_of part_fed part_text
  part_said s b [] h =
      by_test (eqb b 10) (λ e. rw e (λ y z a k. said_end fits after A s b [] y z h e a k)) (λ e. rw e (λ y z a k. said_on fits after A s b [] z h e k))
  part_said s b (c ∷ cs) h =
      by_test (eqb b 10)
      (λ e. rw e (λ y z a k. said_end fits after A s b (c ∷ cs) y z h e a k))
      (λ e. rw e (λ y z a k. said_on fits after A s b (c ∷ cs) _ h e
      (part_said (record { kept = s.kept; reading = read_next s.reading b; begun = true; stopped = false }) c cs refl y z a k)))

  said_ahead : (cur : Fed T) (rest : List ℕ) → 0 < length rest → cur.stopped ≡ false → PartSaid cur rest
  said_ahead cur [] h g = absurd (omega (arith, h))
  said_ahead cur (b ∷ bs) h g = part_said cur b bs g

  good_text : (y : List ℕ) (t : T) (p : Part) → p.ended && is_good fits p.reading ≡ true → part_text y t p ≡ y
  unfolding part_text end_text
  good_text y t p g = rw (and_left p.ended _ g, and_right p.ended _ g) refl

  else_text : (t : T) (p : Part) → part_text [] t p ≡ []
  unfolding part_text end_text
  else_text t p = by_test p.ended (λ e. by_test (is_good fits p.reading) (λ d. rw (e, d) refl) (λ d. rw (e, d) refl)) (λ e. rw e refl)

  -- some bytes of a chunk put a text on the page first, m bytes for a byte at most, and rest is left, which puts the rest of it
  pub record Wrote (m : ℕ) (s : Fed T) (chunk : List ℕ) (first page : Page) (cur : Fed T) (rest : List ℕ) : Type 0 where
    pub room : Room page (m * length rest)
    pub near : page.at + m * length rest ≤ first.at + m * length chunk
    pub text : List ℕ
    pub all_text : (z : List ℕ) → Said fits after A cur rest z → Said fits after A s chunk (text ++ z)
    pub stands : Put first page text

  pub wrote_start : {m : ℕ} (s : Fed T) (chunk : List ℕ) (page : Page) → Room page (m * length chunk) → Wrote m s chunk page page s chunk
  wrote_start s chunk page r = record { room = r; near = omega arith; text = []; all_text = λ z k. k; stands = none page (omega arith) }

  module _ {m : ℕ} {s : Fed T} {chunk : List ℕ} {first page : Page} {cur : Fed T} {rest : List ℕ} {p : Part}
      (w : Wrote m s chunk first page cur rest) (h : 0 < length rest) (g : cur.stopped ≡ false)
      (e : part_of cur.reading rest ≡ p) (k : length p.behind < length rest) where
    wrote_part : {n : Fed T} {x : List ℕ} {next : Page} → part_fed fits after cur.kept p ≡ n → part_text x cur.kept p ≡ x →
        (p.ended && is_good fits p.reading ≡ true → A cur.kept (front p.reading) x) → Put page next x → next.at ≤ page.at + m →
        Wrote m s chunk first next n p.behind
    wrote_part {n} {x} {next} f t a y q =
        let l = far m (length p.behind) (length rest) k in
        let ahead = said_ahead cur rest h g in
        record {
          room = omega (arith, w.room, y.long, q, l);
          near = omega (arith, w.near, q, l);
          text = w.text ++ x;
          all_text = λ z d. rw (append_assoc w.text x z) (w.all_text (x ++ z) (rw t at ((rw e at ahead) x z a (rw f d))));
          stands = then w.stands y;
        }

    pub wrote_good : {x : List ℕ} {next : Page} → p.ended && is_good fits p.reading ≡ true
        → A cur.kept (front p.reading) x → Put page next x → next.at ≤ page.at + m →
        Wrote m s chunk first next (line_due (after cur.kept (front p.reading)) p.reading.numbers) p.behind
    wrote_good {x} f a = wrote_part (part_good fits after cur.kept p f) (good_text x cur.kept p f) (λ d. a)

    pub wrote_else : {next : Page} → p.ended && is_good fits p.reading ≡ false → Put page next [] → next.at ≤ page.at + m
        → Wrote m s chunk first next (part_at cur.kept p) p.behind
    wrote_else f = wrote_part (part_else fits after cur.kept p f) (else_text cur.kept p) (λ d. absurd (true≢false (sym d ∙ f)))

  -- the end: nothing is left to write
  module _ {m : ℕ} {s : Fed T} {chunk : List ℕ} {first page : Page} {cur : Fed T} {rest : List ℕ} (w : Wrote m s chunk first page cur rest) where
    abbrev pub AllWrote : Type 0
    AllWrote = ((text : List ℕ) × Said fits after A s chunk text × Put first page text) × (page.at ≤ first.at + m * length chunk)

    wrote_all : Said fits after A cur rest [] → AllWrote
    wrote_all e = ((w.text, rw (append-nil w.text) at (w.all_text [] e), w.stands), omega (arith, w.near))

    pub wrote_past : length rest ≡ 0 → AllWrote
    unfolding Said
    wrote_past q = wrote_all (rw (nil_from_length rest q) refl)

    pub wrote_stopped : cur.stopped ≡ true → AllWrote
    wrote_stopped q = wrote_all (said_stopped fits after A cur rest q)
