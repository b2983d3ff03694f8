-- What the code holds of a component times a sine or cosine: `fixed::times` gave it, and it is in a 64-bit local.
-- Assumes nothing.
use mathlib.Core.Path.{◌≡◌}
use Prim.Native.Nat.{◌≤◌}
use lib.IntN.{ℤ, nat_abs, ◌*ℤ◌}
use mir.Syntax.{w32, w64}
use mir.Val.{SFits}
use Rattle.fixed.proofs.Reading.{Reads, sized, multiplied, stored, m32, m64}

pub product : {r a m : ℤ} → SFits w32 a → SFits w32 m → nat_abs a ≤ 16383 → nat_abs m ≤ 4096 → r ≡ m32 a *ℤ m32 m → Reads (m64 r) (a *ℤ m) 67104768
product fa fm ha hm e = stored w64 (multiplied e (sized fa ha) (sized fm hm)) tt
