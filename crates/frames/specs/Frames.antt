-- From phase currents to the rotor's frame and back (docs/RULES.md, rules 3, 5 and 8).
use Rattle.std.specs.Prelude.{ℕ, ◌+◌, ◌≤◌, ℤ, pos, nat_abs, ◌+ℤ◌, ◌-ℤ◌, ◌*ℤ◌}
use Rattle.fixed.specs.Fixed.{down}
use Rattle.frames.specs.declared.Stator.{Stator}
use Rattle.frames.specs.declared.Rotor.{Rotor}

-- the size of samples that are taken, of the β that Clarke makes of them, and of the d and q that Park makes of both
abbrev pub sample_end : ℕ
sample_end = 8191

abbrev pub beta_end : ℕ
beta_end = 9459

abbrev pub rotor_end : ℕ
rotor_end = sample_end + beta_end

-- α = ia; β = (2·ib + ia)·2365/4096 down
unfoldable pub clarke : ℤ → ℤ → Stator
clarke ia ib = record { alpha = ia; beta = down ((pos 2 *ℤ ib +ℤ ia) *ℤ pos 2365) (pos 4096) }

-- d = (α·cos + β·sin)/4096 down; q = (β·cos − α·sin)/4096 down: each sum is rounded once
unfoldable pub park : Stator → ℤ → ℤ → Rotor
park v sin cos = record {
  d = down (v.alpha *ℤ cos +ℤ v.beta *ℤ sin) (pos 4096);
  q = down (v.beta *ℤ cos -ℤ v.alpha *ℤ sin) (pos 4096);
}

-- vα = (vd·cos − vq·sin)/4096 down; vβ = (vq·cos + vd·sin)/4096 down
unfoldable pub inverse_park : Rotor → ℤ → ℤ → Stator
inverse_park v sin cos = record {
  alpha = down (v.d *ℤ cos -ℤ v.q *ℤ sin) (pos 4096);
  beta = down (v.q *ℤ cos +ℤ v.d *ℤ sin) (pos 4096);
}

-- what the code asks of two components and of an angle's two functions
pub record FrameSized (a b m n : ℤ) : Type 0 where
  pub a_size : nat_abs a ≤ 16383
  pub b_size : nat_abs b ≤ 16383
  pub m_size : nat_abs m ≤ 4096
  pub n_size : nat_abs n ≤ 4096
