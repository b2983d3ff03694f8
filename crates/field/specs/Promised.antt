-- What the twelve bits below the flux are for: where the current d stays, the flux goes to it and does not rest further away than d − 1, whatever Kr is.
-- Said of numbers; promises/specs/Flux says it of a drive and its calls.
use Rattle.std.specs.Prelude.{ℕ, zero, suc, ◌*◌, ◌≤◌, ◌≡◌, ◌⊎◌, ◌↔◌, ℤ, pos, nat_abs, ◌-ℤ◌, ◌*ℤ◌, ◌≤ℤ◌}
use Rattle.fixed.specs.Fixed.{Between}
use Rattle.field.specs.Field.{fine_next, flux_of}

-- ════ one step
-- Kr is within 1..4096, as in accepted settings
pub record KrIn (kr : ℤ) : Type 0 where
  pub lo : pos 1 ≤ℤ kr
  pub hi : kr ≤ℤ pos 4096

-- the flux is there: it is d or d − 1
abbrev pub There : ℤ → ℤ → Type 0
There d fine = (flux_of fine ≡ d) ⊎ (flux_of fine ≡ d -ℤ pos 1)

-- fine ends between where it was and 4096·d, ends included
abbrev pub FineBetween : Type 0
FineBetween = (kr fine d : ℤ) → KrIn kr → Between fine (fine_next kr fine d) (pos 4096 *ℤ d)

-- so from below it never falls
abbrev pub NeverFalls : Type 0
NeverFalls = (kr fine d : ℤ) → KrIn kr → fine ≤ℤ (pos 4096 *ℤ d) → fine ≤ℤ fine_next kr fine d

-- where it rests, the flux is there, whatever Kr is but 0
abbrev pub RestsThere : Type 0
RestsThere = (kr fine d : ℤ) → pos 1 ≤ℤ kr → fine_next kr fine d ≡ fine → There d fine

-- and once it is there it stays there
abbrev pub StaysThere : Type 0
StaysThere = (kr fine d : ℤ) → KrIn kr → There d fine → There d (fine_next kr fine d)

-- ════ so many steps, in each of which the current is d
unfoldable pub held_for : ℕ → ℤ → ℤ → ℤ → ℤ
held_for zero kr fine d = fine
held_for (suc n) kr fine d = fine_next kr (held_for n kr fine d) d

-- from wherever it is, the flux is there once Kr times the steps is |4096·d − fine|, and from then on
abbrev pub Arrives : Type 0
Arrives = (kr fine d : ℤ) (n : ℕ) → KrIn kr → nat_abs (pos 4096 *ℤ d -ℤ fine) ≤ nat_abs kr * n → There d (held_for n kr fine d)

-- ════ from rest, with Kr 75 and d 2458
-- the flux is 2457 exactly from step 423 on, and fine is where it rests exactly from step 688 on
abbrev pub from_rest : ℕ → ℤ
from_rest n = held_for n (pos 75) (pos 0) (pos 2458)

pub record EndsAt2457 : Type 0 where
  pub flux : (n : ℕ) → (flux_of (from_rest n) ≡ pos 2457) ↔ (423 ≤ n)
  pub fine : (n : ℕ) → (from_rest n ≡ pos 10067914) ↔ (688 ≤ n)
