-- Accepted settings as named ranges: `accepted s ≡ true` exactly when `SettingsIn s`; and what the check's two answers say.
-- Assumes nothing.
use mathlib.Core.Path.{◌≡◌, refl, sym, ap, ◌∙◌}
use mathlib.Core.Logic.{◌↔◌}
use mathlib.Core.Bool.{Bool, true, false, cond, ◌&&◌, true≢false}
use lib.IntN.{ℤ, pos, ◌*ℤ◌}
use lib.Signed.{le_z}
use Rattle.fixed.specs.Fixed.{is_in}
use Rattle.fixed.proofs.HeldLaws.{and_both, equal_is}
use Rattle.fixed.proofs.LadderLaws.{all_pass_lem, none_given, answered_by_lem}
use Rattle.fixed.proofs.Ranges.{In, two, three, four}
use Rattle.settings.specs.declared.Settings.{Settings}
use Rattle.std.specs.Prelude.{Result, Ok, Err, is_ok, List, [], ◌∷◌}
use Rattle.fixed.specs.Ladder.{Rung, unless, first_of, all_pass}
use Rattle.fixed.specs.declared.refusal.Refusal.{Refusal}
use Rattle.fixed.specs.Refusal.{number_of, reason, refuse}
use Rattle.settings.specs.Ranges as range
use Rattle.settings.specs.Settings.{period_ok, gain_ok, gains_ok, tied, gains_tied, limits_ok, rest_ok, refusals, refusal, accepted, checked}

-- one gain set
pub record GainsIn (kp kcor ki : ℤ) : Type 0 where
  pub kp_in : In range.kp kp
  pub kcor_in : In range.kcor kcor
  pub ki_in : In range.ki ki
  pub is_tied : pos 4096 *ℤ ki ≡ kp *ℤ kcor

pub record SettingsIn (s : Settings) : Type 0 where
  pub t : In range.t s.t
  pub speed : GainsIn s.skp s.skcor s.ski
  pub current : GainsIn s.ckp s.ckcor s.cki
  pub v : In range.v s.v
  pub q : In range.q s.q
  pub kr : In range.kr s.kr
  pub kt : In range.kt s.kt
  pub kth : In range.kth s.kth
  pub kn : In range.kn s.kn
  pub f : In range.f s.f
  pub r : In range.r s.r

-- ════ settings
tied_is : (kp kcor ki : ℤ) → (tied kp kcor ki ≡ true) ↔ (pos 4096 *ℤ ki ≡ kp *ℤ kcor)
unfolding tied
tied_is kp kcor ki = equal_is (kp *ℤ kcor) (pos 4096 *ℤ ki)

gains→ : (kp kcor ki : ℤ) → gain_ok kp kcor ki ≡ true → tied kp kcor ki ≡ true → GainsIn kp kcor ki
unfolding gain_ok
gains→ kp kcor ki e t =
    let h = three (is_in range.kp kp) (is_in range.kcor kcor) (is_in range.ki ki) e in
    record { kp_in = h.0; kcor_in = h.1; ki_in = h.2; is_tied = (tied_is kp kcor ki).0 t }

gains← : (kp kcor ki : ℤ) → GainsIn kp kcor ki → gain_ok kp kcor ki ≡ true
unfolding gain_ok
gains← kp kcor ki g = and_both (and_both g.kp_in g.kcor_in) g.ki_in

pub accepted→ : (s : Settings) → accepted s ≡ true → SettingsIn s
unfolding accepted period_ok gains_ok gains_tied limits_ok rest_ok
accepted→ s h =
    let e = (all_pass_lem (refusals s)).0 h in
    let g = two (gain_ok s.skp s.skcor s.ski) (gain_ok s.ckp s.ckcor s.cki) e.1.0 in
    let t = two (tied s.skp s.skcor s.ski) (tied s.ckp s.ckcor s.cki) e.1.1.0 in
    let l = two (is_in range.v s.v) (is_in range.q s.q) e.1.1.1.0 in
    let m = is_in range.kr s.kr && is_in range.kt s.kt && is_in range.kth s.kth in
    let i = four m (is_in range.kn s.kn) (is_in range.f s.f) (is_in range.r s.r) e.1.1.1.1.0 in
    let j = three (is_in range.kr s.kr) (is_in range.kt s.kt) (is_in range.kth s.kth) i.0 in
    record {
      t = e.0;
      speed = gains→ _ _ _ g.0 t.0;
      current = gains→ _ _ _ g.1 t.1;
      v = l.0;
      q = l.1;
      kr = j.0;
      kt = j.1;
      kth = j.2;
      kn = i.1;
      f = i.2;
      r = i.3;
    }

pub accepted← : (s : Settings) → SettingsIn s → accepted s ≡ true
unfolding accepted period_ok gains_ok gains_tied limits_ok rest_ok
accepted← s i =
    let gains = and_both (gains← _ _ _ i.speed) (gains← _ _ _ i.current) in
    let ties = and_both ((tied_is _ _ _).1 i.speed.is_tied) ((tied_is _ _ _).1 i.current.is_tied) in
    let rest = and_both (and_both (and_both (and_both (and_both i.kr i.kt) i.kth) i.kn) i.f) i.r in
    (all_pass_lem (refusals s)).1 (i.t, (gains, (ties, (and_both i.v i.q, (rest, tt)))))

-- ════ the check
pub checked_is : (s : Settings) → checked s ≡ cond (accepted s) (Ok s) (refuse (refusal s))
unfolding checked accepted refusal
checked_is s = answered_by_lem refuse (refusals s) (Ok s)

-- accepted exactly where the number is at most 0
pub accepted_is : (s : Settings) → le_z (refusal s) (pos 0) ≡ accepted s
unfolding accepted refusal
accepted_is s = none_given (refusals s) refl

pub checked_ok : (s : Settings) → is_ok (checked s) ≡ accepted s
checked_ok s = ap is_ok (checked_is s) ∙ by (accepted s)
  where
    by : (b : Bool) → is_ok (cond b (Ok s) (refuse (refusal s))) ≡ b
    by true = refl
    by false = refl

pub checked_accepted : (s r : Settings) → checked s ≡ Ok r → (accepted s ≡ true) × (s ≡ r)
checked_accepted s r h = by (accepted s) refl (sym (checked_is s) ∙ h)
  where
    by : (b : Bool) → accepted s ≡ b → cond b (Ok s) (refuse (refusal s)) ≡ Ok r → (accepted s ≡ true) × (s ≡ r)
    by true e h = (e, cc)
    by false e h = absurd (let z : ◌≡◌ {A = Bool} true false = cc in true≢false z)

pub checked_refused : (s : Settings) (r : Refusal) → checked s ≡ Err r → (accepted s ≡ false) × (r ≡ reason (refusal s))
checked_refused s r h = by (accepted s) refl (sym (checked_is s) ∙ h)
  where
    by : (b : Bool) → accepted s ≡ b → cond b (Ok s) (refuse (refusal s)) ≡ Err r → (accepted s ≡ false) × (r ≡ reason (refusal s))
    by true e h = absurd (let z : ◌≡◌ {A = Bool} true false = cc in true≢false z)
    by false e h = (e, cc)

-- and the reason's number is theirs
pub refusal_number : (s : Settings) → accepted s ≡ false → number_of (reason (refusal s)) ≡ refusal s
unfolding accepted refusal
refusal_number s = by (period_ok s) (gains_ok s) (gains_tied s) (limits_ok s) (rest_ok s)
  where
    rungs : (a b c d e : Bool) → List (Rung (Result Settings Refusal))
    rungs a b c d e = unless a 1 refuse ∷ unless b 2 refuse ∷ unless c 3 refuse ∷ unless d 4 refuse ∷ unless e 5 refuse ∷ []

    by : (a b c d e : Bool) → all_pass (rungs a b c d e) ≡ false → number_of (reason (pos (first_of (rungs a b c d e)))) ≡ pos (first_of (rungs a b c d e))
    by false b c d e h = refl
    by true false c d e h = refl
    by true true false d e h = refl
    by true true true false e h = refl
    by true true true true false h = refl
    by true true true true true h = absurd (true≢false h)
