-- How large the numbers of a step are: what the code's proofs go by where a value has to fit its width.
-- Assumes nothing.
use mathlib.Core.Path.{◌≡◌}
use mathlib.Core.Bool.{Bool, true, false, cond}
use mathlib.Core.List.{List, [], ◌∷◌}
use Prim.Native.Nat.{ℕ, zero, suc, ◌+◌, ◌*◌, ◌/◌, ◌≤◌}
use native.Mathlib.Nat.{le_trans}
use native.Mathlib.Omega.{arith}
use lib.Dec.{leb→le}
use lib.IntN.{ℤ, pos, nat_abs, ◌*ℤ◌}
use lib.ListN.{get_or}
use lib.Signed.{lt_z}
use Rattle.fixed.proofs.Parts.{order, parts-+}
use Rattle.fixed.proofs.Size.{abs-+, abs--, abs-*, abs-*≤, abs_neg, abs←, abs_hi}
use Rattle.fixed.proofs.DownLaws.{down_size}
use Rattle.modulation.specs.declared.Entries.{Entries}
use Rattle.modulation.specs.declared.Sector.{Sector}
use Rattle.modulation.specs.declared.Times.{Times}
use Rattle.modulation.specs.Modulation.{A, B, entries_of, bit, sectors, a_b_c, sector_at, time_of, longest, entry_end, Small, Room}

pub entries_small : (va vb : ℤ) → nat_abs va ≤ 8192 → nat_abs vb ≤ 8192 → Small (entries_of va vb)
unfolding entries_of
entries_small va vb h k =
    omega (arith, abs-* (pos 3547) va, abs-* (pos 2048) vb, abs-* (pos 2) (B vb), abs-+ (A va) (B vb), abs-- (B vb) (A va))

pub bit_le : {r : ℕ} (v : ℤ) (w : ℕ) → r ≡ bit v w → r ≤ w
unfolding bit
bit_le v w e = rw e (by (lt_z (pos 0) v))
  where
    by : (t : Bool) → cond t w 0 ≤ w
    by true = omega arith
    by false = omega arith

-- ════ a row: what holds of each row of a list, and of the row past it, holds of the row at any number
Each : (Sector → Type 0) → List Sector → Type 0
Each Q [] = Unit
Each Q (r ∷ rs) = Q r × Each Q rs

each_at : (Q : Sector → Type 0) (rs : List Sector) (d : Sector) → Each Q rs → Q d → (n : ℕ) → Q (get_or rs n d)
unfolding Each
each_at Q [] d h k n = k
each_at Q (r ∷ rs) d h k zero = h.0
each_at Q (r ∷ rs) d h k (suc n) = each_at Q rs d h.1 k n

pub record Sized (r : Sector) : Type 0 where
  pub one : nat_abs r.t1 ≤ entry_end
  pub two : nat_abs r.t2 ≤ entry_end

pub sector_sized : (n : ℕ) (e : Entries) → Small e → Sized (sector_at n e)
unfolding sector_at Each
sector_sized n e h =
    each_at Sized (sectors e.x e.y e.z) (a_b_c (pos 0) (pos 0)) (omega (arith, abs_neg e.x, abs_neg e.y, abs_neg e.z)) (omega arith) n

-- ════ the times
pub time_size : (t e : ℤ) → nat_abs t ≤ longest → nat_abs e ≤ entry_end → nat_abs (time_of t e) ≤ 100000
unfolding time_of
time_size t e h k =
    le_trans (down_size (t *ℤ e) 16777216 (longest * entry_end) tt (abs-*≤ longest entry_end t e h k))
    (leb→le (longest * entry_end / 16777216 + 1) 100000 tt)

-- times with room in the period are no longer than it
pub room_size : (t : ℤ) (h : Times) → nat_abs t ≤ longest → Room t h → (nat_abs h.t1 ≤ longest) × (nat_abs h.t2 ≤ longest)
room_size t h k r = (
  abs← longest h.t1 (omega (arith, order)) (omega (arith, order, abs_hi longest t k, parts-+ h.t1 h.t2)),
  abs← longest h.t2 (omega (arith, order)) (omega (arith, order, abs_hi longest t k, parts-+ h.t1 h.t2)),
)
