-- The ladder's seven roots are roots, r·r ≤ n < (r + 1)·(r + 1): a root is right below 2^82, and every number whose root is taken is
-- below it, since no cosine on the way is above S.
-- Assumes nothing.
use mathlib.Core.Path.{◌≡◌, subst}
use mathlib.Core.Bool.{Bool, true, false, not, cond}
use Prim.Native.Nat.{ℕ, zero, suc, ◌+◌, ◌*◌, ◌-◌, ◌/◌, ◌^◌, ◌≤◌, ◌<◌}
use native.Mathlib.Nat.{lt_of_le_of_lt, div-le_self, mul-le-mul}
use native.Mathlib.Omega.{arith}
use lib.Dec.{T, leb, leb→le, nleb→lt}
use lib.Pow.{pow-add}
use Rattle.sine.specs.Sine.{scale, cos2, cos1, sin1, halved, root, root_from}

pub record IsRoot (n r : ℕ) : Type 0 where
  pub low : r * r ≤ n
  pub high : n < (r + 1) * (r + 1)

pick_ind : (P : ℕ → Type 0) (b : Bool) (x y : ℕ) → (T b → P x) → (T (not b) → P y) → P (cond b x y)
pick_ind P true x y f g = f tt
pick_ind P false x y f g = g tt

root_from_is : (n k r : ℕ) → r * r ≤ n → n < (r + 2 ^ k) * (r + 2 ^ k) → IsRoot n (root_from n k r)
unfolding root_from
root_from_is n zero r l h = record { low = l; high = h }
root_from_is n (suc k) r l h =
    pick_ind (λ x. IsRoot n (root_from n k x)) (leb ((r + 2 ^ k) * (r + 2 ^ k)) n) (r + 2 ^ k) r
    (λ t. root_from_is n k (r + 2 ^ k) (leb→le ((r + 2 ^ k) * (r + 2 ^ k)) n t) (subst (λ (m : ℕ). n < m * m) (twice r k) h))
    (λ t. root_from_is n k r l (nleb→lt ((r + 2 ^ k) * (r + 2 ^ k)) n t))
  where
    twice : (r k : ℕ) → r + 2 ^ suc k ≡ r + 2 ^ k + 2 ^ k
    twice r k = omega (arith, pow-add 2 k 1)

pub root_is : (n : ℕ) → n < 2 ^ 82 → IsRoot n (root n)
unfolding root
root_is n h = root_from_is n 41 0 (omega arith) (omega arith)

-- ════ the ladder
half_below : (n : ℕ) → n ≤ 2 * scale * scale → n / 2 < 2 ^ 82
half_below n h = lt_of_le_of_lt (div-le_self n 2) (omega arith)

pub halved_is : (c : ℕ) → c ≤ scale → IsRoot (scale * (scale + c) / 2) (halved c)
unfolding halved
halved_is c h = root_is (scale * (scale + c) / 2) (half_below (scale * (scale + c)) (omega arith))

-- a root of at most S² is at most S
root_le : (n r : ℕ) → IsRoot n r → n ≤ scale * scale → r ≤ scale
root_le n r h k = split (leb r scale) (λ t. leb→le r scale t) (λ t. absurd (above (nleb→lt r scale t)))
  where
    split : {A : Type 0} (b : Bool) → (T b → A) → (T (not b) → A) → A
    split true f g = f tt
    split false f g = g tt

    above : scale < r → ⊥
    above g = omega (arith, h.low, mul-le-mul g g)

halved_le : (c : ℕ) → c ≤ scale → halved c ≤ scale
halved_le c h = root_le (scale * (scale + c) / 2) (halved c) (halved_is c h) (omega arith)

twice_le : (c : ℕ) → c ≤ scale → halved (halved c) ≤ scale
twice_le c h = halved_le (halved c) (halved_le c h)

pub cos2_le : cos2 ≤ scale
unfolding cos2
cos2_le = halved_le _ (twice_le _ (twice_le 0 (omega arith)))

pub cos1_is : IsRoot (scale * (scale + cos2) / 2) cos1
unfolding cos1
cos1_is = halved_is cos2 cos2_le

pub sin1_is : IsRoot (scale * (scale - cos2) / 2) sin1
unfolding sin1
sin1_is = root_is (scale * (scale - cos2) / 2) (half_below (scale * (scale - cos2)) (omega arith))
