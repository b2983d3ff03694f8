-- The ranges of the list of names are those that settings are tested against.
-- Assumes nothing.
use mathlib.Core.Path.{◌≡◌, refl, sym, ◌∙◌}
use mathlib.Core.Bool.{Bool, true, false, cond, true≢false}
use Prim.Native.Nat.{ℕ}
use native.Mathlib.Omega.{arith}
use Rattle.fixed.specs.Fixed.{is_in}
use lib.IntN.{pos}
use Rattle.fixed.proofs.Choice.{by_test}
use Rattle.fixed.proofs.HeldLaws.{and_both}
use Rattle.fixed.proofs.LadderLaws.{all_pass_lem}
use Rattle.fixed.proofs.Ranges.{two}
use Rattle.settings.specs.declared.Settings.{Settings}
use Rattle.settings.specs.Settings.{accepted, refusal, refusals, period_ok, gains_ok, gain_ok, gains_tied, limits_ok, rest_ok}
use Rattle.settings.specs.Ranges as range
use Rattle.settings.specs.Promised.{RangesAre}
use Rattle.settings.specs.Words.{entries, words_of, all_in}
use Rattle.settings.proofs.Ranges.{accepted→}

-- words of accepted settings are in the entries' ranges
pub all_in_lem : (s : Settings) → accepted s ≡ true → all_in entries (words_of s) ≡ true
unfolding all_in entries words_of
all_in_lem s a =
    let i = accepted→ s a in
    and_both i.t
    (and_both i.speed.kp_in
    (and_both i.speed.kcor_in
    (and_both i.speed.ki_in
    (and_both i.current.kp_in
    (and_both i.current.kcor_in
    (and_both i.current.ki_in
    (and_both i.v
    (and_both i.q
    (and_both i.kr
    (and_both i.kt
    (and_both i.kth
    (and_both i.kn
    (and_both i.f
    (and_both i.r refl))))))))))))))

-- and those in range that hold together are accepted
tied_only : (s : Settings) → accepted s ≡ true → gains_tied s ≡ true
unfolding accepted
tied_only s a = ((all_pass_lem (refusals s)).0 a).1.1.0

-- what a range of each word gives
pub record InRange (s : Settings) : Type 0 where
  pub period : period_ok s ≡ true
  pub gains : gains_ok s ≡ true
  pub limits : limits_ok s ≡ true
  pub rest : rest_ok s ≡ true

pub in-range : (s : Settings) → all_in entries (words_of s) ≡ true → InRange s
unfolding all_in entries words_of period_ok gains_ok gain_ok limits_ok rest_ok
in-range s h0 =
    let h1 = two (is_in range.t s.t) _ h0 in
    let h2 = two (is_in range.kp s.skp) _ h1.1 in
    let h3 = two (is_in range.kcor s.skcor) _ h2.1 in
    let h4 = two (is_in range.ki s.ski) _ h3.1 in
    let h5 = two (is_in range.kp s.ckp) _ h4.1 in
    let h6 = two (is_in range.kcor s.ckcor) _ h5.1 in
    let h7 = two (is_in range.ki s.cki) _ h6.1 in
    let h8 = two (is_in range.v s.v) _ h7.1 in
    let h9 = two (is_in range.q s.q) _ h8.1 in
    let h10 = two (is_in range.kr s.kr) _ h9.1 in
    let h11 = two (is_in range.kt s.kt) _ h10.1 in
    let h12 = two (is_in range.kth s.kth) _ h11.1 in
    let h13 = two (is_in range.kn s.kn) _ h12.1 in
    let h14 = two (is_in range.f s.f) _ h13.1 in
    let h15 = two (is_in range.r s.r) _ h14.1 in
    record {
      period = h1.0;
      gains = and_both (and_both (and_both h2.0 h3.0) h4.0) (and_both (and_both h5.0 h6.0) h7.0);
      limits = and_both h8.0 h9.0;
      rest = and_both (and_both (and_both (and_both (and_both h10.0 h11.0) h12.0) h13.0) h14.0) h15.0;
    }

in-accepted : (s : Settings) → all_in entries (words_of s) ≡ true → gains_tied s ≡ true → accepted s ≡ true
unfolding accepted
in-accepted s h t = let i = in-range s h in (all_pass_lem (refusals s)).1 (i.period, (i.gains, (t, (i.limits, (i.rest, tt)))))

pub ranges_are : RangesAre
ranges_are s = (λ a. (all_in_lem s a, tied_only s a), λ h. in-accepted s h.0 h.1)

-- with all words in range the number is 3, or none
pub in-range-number : (s : Settings) → all_in entries (words_of s) ≡ true → accepted s ≡ false → refusal s ≡ pos 3
unfolding refusal
in-range-number s h a =
    let i = in-range s h in
    let t : gains_tied s ≡ false = by_test (gains_tied s) (λ t. absurd (true≢false (sym (in-accepted s h t) ∙ a))) (λ t. t) in
    simp (i.period, i.gains, t)

-- and with 3 a gain set does not hold together
pub untied_only : (s : Settings) → refusal s ≡ pos 3 → gains_tied s ≡ false
unfolding refusal
untied_only s e = by (period_ok s) (gains_ok s) (gains_tied s) (limits_ok s) (rest_ok s) e
  where
    other : (n : ℕ) → (n ≡ 3 → ⊥) → {b : Bool} → pos n ≡ pos 3 → b ≡ false
    other n h e = let z : n ≡ 3 = cc in absurd (h z)

    by : (a b c d e : Bool) → pos (cond a (cond b (cond c (cond d (cond e 0 5) 4) 3) 2) 1) ≡ pos 3 → c ≡ false
    by a b false d e h = refl
    by false b true d e h = other 1 (λ z. omega (arith, z)) h
    by true false true d e h = other 2 (λ z. omega (arith, z)) h
    by true true true false e h = other 4 (λ z. omega (arith, z)) h
    by true true true true false h = other 5 (λ z. omega (arith, z)) h
    by true true true true true h = other 0 (λ z. omega (arith, z)) h
