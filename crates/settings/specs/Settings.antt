-- The settings, and when they are refused (docs/RULES.md, "Settings", and numbers 1 to 5 of "Numbers handed back").
use Rattle.std.specs.Prelude.{Bool, ◌&&◌, List, [], ◌∷◌, ℤ, pos, ◌*ℤ◌, Result, Ok}
use Rattle.fixed.specs.Fixed.{equal, is_in}
use Rattle.fixed.specs.Ladder.{Rung, unless, answer_of, first_of, all_pass}
use Rattle.fixed.specs.declared.refusal.Refusal.{Refusal}
use Rattle.fixed.specs.Refusal.{refuse, number_in}
use Rattle.settings.specs.declared.Settings.{Settings}
use Rattle.settings.specs.Ranges as range

unfoldable pub period_ok : Settings → Bool
period_ok s = is_in range.t s.t

unfoldable pub gain_ok : ℤ → ℤ → ℤ → Bool
gain_ok kp kcor ki = is_in range.kp kp && is_in range.kcor kcor && is_in range.ki ki

-- two gain sets, speed and current
unfoldable pub gains_ok : Settings → Bool
gains_ok s = gain_ok s.skp s.skcor s.ski && gain_ok s.ckp s.ckcor s.cki

-- 4096·Ki = Kp-as-Kcor
unfoldable pub tied : ℤ → ℤ → ℤ → Bool
tied kp kcor ki = equal (kp *ℤ kcor) (pos 4096 *ℤ ki)

unfoldable pub gains_tied : Settings → Bool
gains_tied s = tied s.skp s.skcor s.ski && tied s.ckp s.ckcor s.cki

unfoldable pub limits_ok : Settings → Bool
limits_ok s = is_in range.v s.v && is_in range.q s.q

unfoldable pub rest_ok : Settings → Bool
rest_ok s =
    is_in range.kr s.kr
    && is_in range.kt s.kt
    && is_in range.kth s.kth
    && is_in range.kn s.kn
    && is_in range.f s.f
    && is_in range.r s.r

-- ════ the table: T; a Kp, Kcor or Ki; a gain set that breaks 4096·Ki = Kp-as-Kcor; V or Q; Kr, Kt, Kth, Kn, F or R. The lowest number decides
abbrev pub refusals : Settings → List (Rung (Result Settings Refusal))
refusals s =
    unless (period_ok s) 1 refuse
    ∷ unless (gains_ok s) 2 refuse
    ∷ unless (gains_tied s) 3 refuse
    ∷ unless (limits_ok s) 4 refuse
    ∷ unless (rest_ok s) 5 refuse
    ∷ []

-- what settings answer: themselves, or why they are refused, with the number of the first rung that does
unfoldable pub checked : Settings → Result Settings Refusal
checked s = answer_of (refusals s) (Ok s)

-- that number, 0 where none does, and whether none does
unfoldable pub refusal : Settings → ℤ
refusal s = pos (first_of (refusals s))

unfoldable pub accepted : Settings → Bool
accepted s = all_pass (refusals s)

-- the number of each case
abbrev pub checked_number : Result Settings Refusal → ℤ
checked_number r = number_in r
