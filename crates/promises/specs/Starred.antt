-- The starred cases of docs/RULES.md, "Cases to hold a drive to", as a list: what the definitions give, beside what stands there. Eleven
-- cases; that of the flux has three numbers.
use Rattle.std.specs.Prelude.{◌≡◌, List, [], ◌∷◌, ℕ, ℤ, pos, negsuc, ◌*ℤ◌, length}
use Rattle.regulator.specs.declared.Gains.{Gains}
use Rattle.regulator.specs.declared.Regulated.{Regulated}
use Rattle.regulator.specs.Regulator.{regulated}
use Rattle.frames.specs.Frames.{clarke}
use Rattle.field.specs.Field.{flux_of, angle_next}
use Rattle.field.specs.Promised.{held_for}
use Rattle.modulation.specs.declared.Pulses.{Pulses}
use Rattle.modulation.specs.Modulation.{modulated}

pub record Case : Type 0 where
  pub got : List ℤ
  pub wanted : List ℤ

infix 2 ◌gives◌
abbrev pub ◌gives◌ : List ℤ → List ℤ → Case
got gives wanted = record { got = got; wanted = wanted }

-- the words of an answer, as the cases list them
abbrev pub number : ℤ → List ℤ
number z = z ∷ []

abbrev pub out_and_integral : Regulated → List ℤ
out_and_integral r = r.out ∷ r.x ∷ []

abbrev pub compares : Pulses → List ℤ
compares p = p.a ∷ p.b ∷ p.c ∷ []

-- the bench set's current gains
abbrev pub current : Gains
current = record { kp = pos 4096; kcor = pos 256; ki = pos 256 }

-- the fine flux from 4096·2404, after so many steps with d 2458 and Kr 75
abbrev pub risen : ℕ → ℤ
risen n = held_for n (pos 75) (pos 4096 *ℤ pos 2404) (pos 2458)

unfoldable pub cases : List Case
cases =
    (number (clarke (pos 0) (pos 4096)).beta gives number (pos 4730))
    ∷ (number (clarke (pos 0) (negsuc 0)).beta gives number (negsuc 1))
    ∷ (out_and_integral (regulated (pos 0) (pos 100) current (pos 4096)) gives (pos 100 ∷ pos 6 ∷ []))
    ∷ (out_and_integral (regulated (pos 0) (negsuc 99) current (pos 4096)) gives (negsuc 99 ∷ negsuc 6 ∷ []))
    ∷ (out_and_integral (regulated (pos 0) (pos 8191) current (pos 4096)) gives (pos 4096 ∷ pos 256 ∷ []))
    ∷ ((risen 1 ∷ flux_of (risen 1) ∷ flux_of (risen 2) ∷ []) gives (pos 9850834 ∷ pos 2404 ∷ pos 2405 ∷ []))
    ∷ (number (angle_next (pos 100) (pos 0) (negsuc 0)) gives number (pos 65535))
    ∷ (compares (modulated (pos 600) (pos 0) (pos 0)) gives (pos 300 ∷ pos 300 ∷ pos 300 ∷ []))
    ∷ (compares (modulated (pos 600) (pos 4096) (pos 0)) gives (pos 40 ∷ pos 559 ∷ pos 559 ∷ []))
    ∷ (compares (modulated (pos 600) (pos 0) (pos 4096)) gives (pos 300 ∷ pos 0 ∷ pos 600 ∷ []))
    ∷ (compares (modulated (pos 600) (pos 2048) (pos 2048)) gives (pos 95 ∷ pos 204 ∷ pos 504 ∷ []))
    ∷ []

-- every case of a list holds
unfoldable pub AllHold : List Case → Type 0
AllHold [] = Unit
AllHold (c ∷ cs) = (c.got ≡ c.wanted) × AllHold cs

-- the eleven hold, as one list under one claim
abbrev pub StarredHold : Type 0
StarredHold = (length cases ≡ 11) × AllHold cases
