-- `sine::place` meets its contract.
-- Assumes nothing.
use mathlib.Core.Path.{◌≡◌, ap, sym, ◌∙◌}
use mathlib.Core.Bool.{Bool, true, false, cond}
use Prim.Native.Nat.{ℕ, ◌-◌, ◌%◌, ◌<◌}
use lib.Dec.{leb}
use borrow.Author.Tests.{le-leb, lt-leb}
use Rattle.sine.specs.Sine.{place_of}
use Rattle.sine.proofs.Rule.{place_in_half_lem}
use Rattle.sine.proofs.place.Goals as goal

by : (k : ℕ) → k < 256 → (b : Bool) → leb (k % 128) 64 ≡ b → cond b (k % 128) (128 - k % 128) ≡ place_of k
by k h b e = ap (λ (t : Bool). cond t (k % 128) (128 - k % 128)) (sym e) ∙ place_in_half_lem k h

pub returns-then-h-le64 : goal.returns-then-h-le64
returns-then-h-le64 c = let s = c.before in by s.args.k s.requires true (le-leb (s.args.k % 128) 64 c.if-h-le64.true)

pub returns-else-h-le64 : goal.returns-else-h-le64
returns-else-h-le64 c = let s = c.before in by s.args.k s.requires false (lt-leb (s.args.k % 128) 64 c.if-h-le64.false)
