-- The regulator (docs/RULES.md, "Regulator"): one rule, which serves speed, d and q.
use Rattle.std.specs.Prelude.{ℕ, ◌≤◌, ◌≡◌, ℤ, pos, neg_ℤ, nat_abs, ◌+ℤ◌, ◌-ℤ◌, ◌*ℤ◌, ◌≤ℤ◌}
use Rattle.fixed.specs.Fixed.{down, held}
use Rattle.regulator.specs.declared.Gains.{Gains}
use Rattle.regulator.specs.declared.Regulated.{Regulated}

-- u = x + e·Kp/4096 down
unfoldable pub sum_of : ℤ → ℤ → Gains → ℤ
sum_of x e g = x +ℤ down (e *ℤ g.kp) (pos 4096)

-- out = u held to the limits
unfoldable pub out_of : ℤ → ℤ → Gains → ℤ → ℤ
out_of x e g limit = held (sum_of x e g) (neg_ℤ limit) limit

-- x' = x + (e·Ki + (out − u)·Kcor)/4096 down
unfoldable pub next_of : ℤ → ℤ → Gains → ℤ → ℤ
next_of x e g limit =
    x +ℤ down (e *ℤ g.ki +ℤ (out_of x e g limit -ℤ sum_of x e g) *ℤ g.kcor) (pos 4096)

-- the output, and the integral after it
unfoldable pub regulated : ℤ → ℤ → Gains → ℤ → Regulated
regulated x e g limit = record { out = out_of x e g limit; x = next_of x e g limit }

-- gains for which the regulator fact holds: those that the settings accept, and larger ones
pub record Lawful (g : Gains) : Type 0 where
  pub kp_lo : pos 1 ≤ℤ g.kp
  pub kcor_lo : pos 0 ≤ℤ g.kcor
  pub kcor_hi : g.kcor ≤ℤ pos 4096
  pub tied : pos 4096 *ℤ g.ki ≡ g.kp *ℤ g.kcor

-- the size of limits, and so of integrals and outputs; and of errors
abbrev pub widest : ℕ
widest = 8191

abbrev pub error_end : ℕ
error_end = 32767

-- what the code asks of its numbers, so that nothing overflows
pub record RegulatorSized (x e : ℤ) (g : Gains) (limit : ℤ) : Type 0 where
  pub x_size : nat_abs x ≤ widest
  pub e_size : nat_abs e ≤ error_end
  pub kp_size : nat_abs g.kp ≤ 32767
  pub kcor_size : nat_abs g.kcor ≤ 4096
  pub ki_size : nat_abs g.ki ≤ 32767
  pub limit_size : nat_abs limit ≤ widest
  pub limits : neg_ℤ limit ≤ℤ limit
