-- The ramp's time over any calls.
-- Assumes nothing.
use mathlib.Core.Path.{◌≡◌, refl, sym, ◌∙◌, ap}
use mathlib.Core.Logic.{◌↔◌}
use Prim.Native.Nat.{ℕ, suc, ◌+◌, ◌*◌, ◌-◌, ◌≤◌, ◌<◌}
use native.Mathlib.Nat.{div-lt_iff_lt-mul}
use native.Mathlib.Omega.{arith}
use lib.IntN.{ℤ, pos, negsuc, nat_abs, ◌-ℤ◌}
use Rattle.fixed.proofs.Parts.{order}
use Rattle.shaft.specs.Shaft.{ramped}
use Rattle.shaft.proofs.Ramp as ramp
use Rattle.fixed.proofs.Ranges.{In, in-lo}
use Rattle.settings.specs.Ranges as range
use Rattle.drive_record.proofs.Ranges.{Sound, not_broken}
use Rattle.promises.specs.Histories.{ticks_of, rounded_up}
use Rattle.promises.specs.Ramp.{RampOnTime}
use Rattle.promises.proofs.Onward.{calls_onward}

-- ════ the time it takes
rounded : (gap r k : ℕ) → 0 < r → (gap ≤ k * r) ↔ (rounded_up gap r ≤ k)
rounded gap r k h = (
  λ l. omega (arith, (div-lt_iff_lt-mul {k = r} {x = gap + r - 1} {y = suc k} h).1 (omega arith)),
  λ l. omega (arith, (div-lt_iff_lt-mul {k = r} {x = gap + r - 1} {y = suc k} h).0 (omega (arith, l))),
)

-- the ramp's step R is a natural number, and not 0
natural : (r : ℤ) → In range.r r → (r ≡ pos (nat_abs r)) × (0 < nat_abs r)
natural (pos n) i = (refl, omega (arith, order, in-lo range.r (pos n) i))
natural (negsuc n) i = absurd (in-lo range.r (negsuc n) i).le

-- ════ with the target unchanged and no trip
pub ramp_on_time : RampOnTime
ramp_on_time d cs b t q =
    let met : Sound d = (not_broken d).0 b in
    let after_call = (calls_onward d cs met t q).reference in
    let gap = nat_abs (d.command.target -ℤ d.command.reference) in
    let r = nat_abs d.settings.r in
    let n = natural d.settings.r met.settings.r in
    let e = after_call ∙ ap (ramped (ticks_of d cs) d.command.reference d.command.target) n.0 in
    let f = ramp.reached (ticks_of d cs) d.command.reference d.command.target r in
    let g = rounded gap r (ticks_of d cs) n.1 in
    record { reference = after_call; reached = (λ at. g.0 (f.0 (sym e ∙ at)), λ l. e ∙ f.1 (g.1 l)) }
