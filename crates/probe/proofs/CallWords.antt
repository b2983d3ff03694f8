-- Which call a line is, by its first number; that numbers past a line's own play no part in it; and what a step and a target are answered.
-- Assumes nothing.
use mathlib.Core.Path.{◌≡◌, refl, sym, ◌∙◌, ap}
use mathlib.Core.Bool.{Bool, true, false, ◌&&◌}
use mathlib.Core.List.{List}
use Prim.Native.Nat.{ℕ, ◌+◌, ◌≤◌, ◌<◌}
use native.Mathlib.Omega.{arith}
use borrow.Author.Tests.{eqb-true}
use lib.Dec.{eqb}
use lib.IntN.{ℤ, pos}
use lib.ListN.{get_or, take, drop}
use lib.Seq.{get_or-take}
use mir.Facts.{to_z-of_z}
use mir.Syntax.{w32}
use mir.Val.{SFits, to_z, of_z, bool_byte}
use Rattle.std.proofs.lemmas.List.{get_or-drop}
use Rattle.fixed.proofs.Choice.{by_test}
use Rattle.fixed.proofs.HeldLaws.{equal_is, and_left, and_right}
use Rattle.settings.specs.Words.{settings_of}
use Rattle.drive_record.specs.declared.Drive.{Drive}
use Rattle.stages.specs.declared.Stepped.{Stepped}
use Rattle.drive.specs.declared.Answered.{Answered}
use Rattle.drive.specs.Calls.{stepped, targeted}
use Rattle.writing.specs.declared.Page.{Page}
use Rattle.writing.specs.Decimal.{line_text}
use Rattle.writing.specs.Page.{Put}
use Rattle.probe.specs.declared.Call.{Call}
use Rattle.probe.specs.declared.Call.TheVariants.{Make, Step, Target, Clear}
use Rattle.probe.specs.Calls.{
  record_at,
  own_at,
  most,
  flags,
  call,
  call_by,
  word_at,
  settings_at,
  shaft_at,
  command_at,
  field_at,
  integrals_at,
  drive_at,
  call_of,
  flag_word,
  stepped_words,
  answered_words,
  answer_words,
}

-- a flag that was made a number, in a local
pub told_flag : {z : ℤ} (set : Bool) → z ≡ pos (bool_byte set) → to_z w32 (of_z w32 z) ≡ flag_word set
told_flag true e = rw e refl
told_flag false e = rw e refl

-- a number by its bits
pub by_its_bits : {x : ℤ} (j : ℕ) → SFits w32 x → of_z w32 x ≡ j → x ≡ to_z w32 j
by_its_bits j h e = sym (to_z-of_z h) ∙ ap (to_z w32) e

-- ════ by its first number
pub is_make : (ns : List ℤ) → word_at ns 0 ≡ pos 0 → call_of ns ≡ Make (settings_at ns)
unfolding call_of
is_make ns e = rw e refl

pub is_step : (ns : List ℤ) → word_at ns 0 ≡ pos 1
    → call_of ns ≡ Step (drive_at ns) (word_at ns own_at) (word_at ns (own_at + 1)) (word_at ns (own_at + 2))
unfolding call_of
is_step ns e = rw e refl

pub is_target : (ns : List ℤ) → word_at ns 0 ≡ pos 2 → call_of ns ≡ Target (drive_at ns) (word_at ns own_at)
unfolding call_of
is_target ns e = rw e refl

pub is_clear : (ns : List ℤ) → word_at ns 0 ≡ pos 3 → call_of ns ≡ Clear (drive_at ns)
unfolding call_of
is_clear ns e = rw e refl

-- ════ of the first n numbers
front_word : (ns : List ℤ) (n k : ℕ) → k < n → word_at (take n ns) k ≡ word_at ns k
front_word ns n k h = get_or-take n ns k (pos 0) h

behind : (ns : List ℤ) (n k : ℕ) → 1 + k < n → get_or (drop 1 (take n ns)) k (pos 0) ≡ get_or (drop 1 ns) k (pos 0)
behind ns n k h = get_or-drop 1 (take n ns) k (pos 0) ∙ get_or-take n ns (1 + k) (pos 0) h ∙ sym (get_or-drop 1 ns k (pos 0))

front_settings : (ns : List ℤ) (n : ℕ) → record_at ≤ n → settings_at (take n ns) ≡ settings_at ns
unfolding settings_of
front_settings ns n h =
    let e : (k : ℕ) → 1 + k < record_at → get_or (drop 1 (take n ns)) k (pos 0) ≡ get_or (drop 1 ns) k (pos 0) =
    λ k l. behind ns n k (omega (arith, h, l)) in
    rw (
      e 0 (omega arith),
      e 1 (omega arith),
      e 2 (omega arith),
      e 3 (omega arith),
      e 4 (omega arith),
      e 5 (omega arith),
      e 6 (omega arith),
      e 7 (omega arith),
      e 8 (omega arith),
      e 9 (omega arith),
      e 10 (omega arith),
      e 11 (omega arith),
      e 12 (omega arith),
      e 13 (omega arith),
      e 14 (omega arith),
    ) refl

front_drive : (ns : List ℤ) (n : ℕ) → own_at ≤ n → drive_at (take n ns) ≡ drive_at ns
unfolding drive_at shaft_at command_at field_at integrals_at
front_drive ns n h =
    let e : (k : ℕ) → k < 15 → word_at (take n ns) (record_at + k) ≡ word_at ns (record_at + k) =
    λ k l. front_word ns n (record_at + k) (omega (arith, h, l)) in
    rw (
      front_settings ns n (omega (arith, h)),
      e 0 (omega arith),
      e 1 (omega arith),
      e 2 (omega arith),
      e 3 (omega arith),
      e 4 (omega arith),
      e 5 (omega arith),
      e 6 (omega arith),
      e 7 (omega arith),
      e 8 (omega arith),
      e 9 (omega arith),
      e 10 (omega arith),
      e 11 (omega arith),
      e 12 (omega arith),
      e 13 (omega arith),
      e 14 (omega arith),
    ) refl

-- of so many numbers that are a call, the call
pub front_of : (ns : List ℤ) (n : ℕ) → call_by ns n ≡ true → call_of (take n ns) ≡ call_of ns
unfolding call_by
front_of ns n t =
    let first : (k : ℕ) → word_at ns 0 ≡ pos k → 0 < n → word_at (take n ns) 0 ≡ pos k = λ k e l. front_word ns n 0 l ∙ e in
    let many : (c : ℕ) (b : Bool) → eqb n c && b ≡ true → n ≡ c = λ c b h. eqb-true n c (and_left (eqb n c) b h) in
    let which : (c k : ℕ) → eqb n c && (call ns (pos k) && flags ns) ≡ true → word_at ns 0 ≡ pos k =
    λ c k h. (equal_is (pos k) (word_at ns 0)).0 (and_left (call ns (pos k)) (flags ns) (and_right (eqb n c) (call ns (pos k) && flags ns) h)) in
    by_test (eqb n record_at && call ns (pos 0))
    (λ h. let m = many record_at (call ns (pos 0)) h in
    let e = (equal_is (pos 0) (word_at ns 0)).0 (and_right (eqb n record_at) (call ns (pos 0)) h) in
    is_make (take n ns) (first 0 e (omega (arith, m))) ∙ ap Make (front_settings ns n (omega (arith, m))) ∙ sym (is_make ns e))
    (λ no0. by_test (eqb n most && (call ns (pos 1) && flags ns))
    (λ h. let m = many most (call ns (pos 1) && flags ns) h in
    let e = which most 1 h in
    is_step (take n ns) (first 1 e (omega (arith, m)))
    ∙ rw (
      front_drive ns n (omega (arith, m)),
      front_word ns n own_at (omega (arith, m)),
      front_word ns n (own_at + 1) (omega (arith, m)),
      front_word ns n (own_at + 2) (omega (arith, m)),
    ) (sym (is_step ns e)))
    (λ no1. by_test (eqb n (own_at + 1) && (call ns (pos 2) && flags ns))
    (λ h. let m = many (own_at + 1) (call ns (pos 2) && flags ns) h in
    let e = which (own_at + 1) 2 h in
    is_target (take n ns) (first 2 e (omega (arith, m)))
    ∙ rw (front_drive ns n (omega (arith, m)), front_word ns n own_at (omega (arith, m))) (sym (is_target ns e)))
    (λ no2. let h = rw (no0, no1, no2) at t in
    let m = many own_at (call ns (pos 3) && flags ns) h in
    let e = which own_at 3 h in
    is_clear (take n ns) (first 3 e (omega (arith, m))) ∙ ap Clear (front_drive ns n (omega (arith, m))) ∙ sym (is_clear ns e))))

-- ════ a call's answer, where what was put is that of the drive
pub put_step : {p q : Page} {call : Call} {s : Stepped} (d : Drive) (ia ib count : ℤ) → call ≡ Step d ia ib count
    → s ≡ stepped d ia ib count → Put p q (line_text (stepped_words s)) → Put p q (line_text (answer_words call))
put_step d ia ib count e f h = rw (e, ← f) h

pub put_target : {p q : Page} {call : Call} {a : Answered} (d : Drive) (wanted : ℤ) → call ≡ Target d wanted
    → a ≡ targeted d wanted → Put p q (line_text (answered_words a)) → Put p q (line_text (answer_words call))
put_target d wanted e f h = rw (e, ← f) h
