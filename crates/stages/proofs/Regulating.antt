-- What `regulator::regulate` asks of its numbers, from accepted settings and an error of two words in range.
-- Assumes nothing.
use mathlib.Core.Path.{◌≡◌}
use Prim.Native.Nat.{◌≤◌}
use native.Mathlib.Omega.{arith}
use lib.IntN.{ℤ, pos, nat_abs, ◌-ℤ◌}
use lib.Signed.{◌≤ℤ◌}
use Rattle.fixed.proofs.Size.{abs--}
use Rattle.fixed.proofs.Ranges.{in-lo, in_size, limits_cross}
use Rattle.settings.specs.Ranges as range
use Rattle.frames.specs.Frames.{rotor_end}
use Rattle.regulator.specs.declared.Gains.{Gains}
use Rattle.regulator.specs.Regulator.{widest, RegulatorSized}
use Rattle.settings.specs.declared.Settings.{Settings}
use Rattle.stages.specs.Step.{speed_gains, current_gains, ErrorSized, error_size}
use Rattle.settings.proofs.Ranges.{GainsIn, SettingsIn}

pub error_sized : (x wanted actual : ℤ) → nat_abs x ≤ widest → nat_abs wanted ≤ widest → nat_abs actual ≤ rotor_end → ErrorSized x wanted actual
error_sized x wanted actual i w a = record { x_size = i; wanted_size = w; actual_size = a }

pub error_size_lem : (x wanted actual : ℤ) → ErrorSized x wanted actual → nat_abs (wanted -ℤ actual) ≤ error_size
error_size_lem x wanted actual h = omega (arith, abs-- wanted actual, h.wanted_size, h.actual_size)

gains_sized : (x wanted actual : ℤ) (g : Gains) (limit : ℤ) → GainsIn g.kp g.kcor g.ki
    → pos 1 ≤ℤ limit → nat_abs limit ≤ widest → ErrorSized x wanted actual → RegulatorSized x (wanted -ℤ actual) g limit
gains_sized x wanted actual g limit i lo hi h = record {
  x_size = h.x_size;
  e_size = omega (arith, error_size_lem x wanted actual h);
  kp_size = in_size range.kp g.kp i.kp_in;
  kcor_size = in_size range.kcor g.kcor i.kcor_in;
  ki_size = in_size range.ki g.ki i.ki_in;
  limit_size = hi;
  limits = limits_cross limit lo;
}

pub speed_sized : (s : Settings) (x wanted actual : ℤ) → SettingsIn s → ErrorSized x wanted actual → RegulatorSized x (wanted -ℤ actual) (speed_gains s) s.q
unfolding speed_gains
speed_sized s x wanted actual i h =
    gains_sized x wanted actual (speed_gains s) s.q i.speed (in-lo range.q s.q i.q) (in_size range.q s.q i.q) h

pub current_sized : (s : Settings) (x wanted actual : ℤ) → SettingsIn s
    → ErrorSized x wanted actual → RegulatorSized x (wanted -ℤ actual) (current_gains s) s.v
unfolding current_gains
current_sized s x wanted actual i h =
    gains_sized x wanted actual (current_gains s) s.v i.current (in-lo range.v s.v i.v) (omega (arith, in_size range.v s.v i.v)) h

-- the same once each number is read back from its bits
pub read_errors : {x y w v a b : ℤ} → x ≡ y → w ≡ v → a ≡ b → ErrorSized y v b → ErrorSized x w a
read_errors p q r t = rw (p, q, r) t

pub read_sized : {x y e f l m : ℤ} {g h : Gains} → x ≡ y → e ≡ f → g ≡ h → l ≡ m → RegulatorSized y f h m → RegulatorSized x e g l
read_sized p q r s t = rw (p, q, r, s) t
