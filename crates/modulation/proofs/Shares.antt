-- The arithmetic of clipping, over the naturals: the shares a and b that two times m and n have in a period t, and how they stand to the words f and g
-- that the times come from. A quotient rounded down is given by its two bounds, `Part`.
-- Assumes nothing.
use Prim.Native.Nat.{ℕ, zero, suc, ◌+◌, ◌*◌, ◌/◌, ◌≤◌, ◌<◌}
use native.Mathlib.Nat.{div-add-mod, mod-lt, mul-le-mul_left, le_of_mul-le-mul_left, lt_of_mul-lt-mul_left}
use native.Mathlib.Omega.{arith}

-- q is n/d rounded down
pub record Part (n d q : ℕ) : Type 0 where
  pub low : d * q ≤ n
  pub high : n < d * q + d

pub part : (n d : ℕ) → 0 < d → Part n d (n / d)
part n d h = record { low = omega (arith, div-add-mod n d); high = omega (arith, div-add-mod n d, mod-lt n h) }

-- of a product, whichever factor stands first
pub part_of : (t x d : ℕ) → 0 < d → Part (x * t) d (t * x / d)
part_of t x d h = let p = part (t * x) d h in record { low = omega (arith, p.low); high = omega (arith, p.high) }

cancel : (k x y : ℕ) → 0 < k → k * x ≤ k * y → x ≤ y
cancel k x y p h = le_of_mul-le-mul_left h p

-- x·t/d and y·t/d, rounded down to p and q, are in the proportion of x and y: p·y − q·x is at most x, and so, with the two exchanged, at least −y
in-proportion : (d t x y p q : ℕ) → 0 < d → Part (x * t) d p → Part (y * t) d q → p * y ≤ q * x + x
in-proportion d t x y p q h one two =
    let k : y * t ≤ d * q + d = omega (arith, two.high) in
    cancel d (p * y) (q * x + x) h (omega (arith, mul-le-mul_left y one.low, mul-le-mul_left x k))

-- ════ two shares of one sum
pub record Shares (t m n a b : ℕ) : Type 0 where
  pub some : 0 < m + n
  pub one : Part (m * t) (m + n) a
  pub two : Part (n * t) (m + n) b

-- together they are t or t − 1
pub sum_most : (t m n a b : ℕ) → Shares t m n a b → a + b ≤ t
sum_most t m n a b h = cancel (m + n) (a + b) t h.some (omega (arith, h.one.low, h.two.low))

pub sum_least : (t m n a b : ℕ) → Shares t m n a b → t ≤ a + b + 1
sum_least t m n a b h =
    let l : (m + n) * t < (m + n) * (a + b + 2) = omega (arith, h.one.high, h.two.high) in
    omega (arith, lt_of_mul-lt-mul_left (m + n) l)

-- and in the proportion of m and n: a·n − b·m is within −n..m
pub proportion_most : (t m n a b : ℕ) → Shares t m n a b → a * n ≤ b * m + m
proportion_most t m n a b h = in-proportion (m + n) t m n a b h.some h.one h.two

pub proportion_least : (t m n a b : ℕ) → Shares t m n a b → b * m ≤ a * n + n
proportion_least t m n a b h = in-proportion (m + n) t n m b a h.some h.two h.one

-- ════ shares of what is asked: m and n are f·t/u and g·t/u rounded down, and together no less than t
pub record Asked (u t f g m n a b : ℕ) : Type 0 where
  pub some : 0 < u
  pub first : Part (f * t) u m
  pub second : Part (g * t) u n
  pub over : t ≤ m + n
  pub shares : Shares t m n a b

-- the words are not both 0
pub words : (u t f g m n a b : ℕ) → Asked u t f g m n a b → 0 < f + g
words u t zero zero m n a b h =
    let k : m ≤ 0 = cancel u m 0 h.some (omega (arith, h.first.low)) in
    let l : n ≤ 0 = cancel u n 0 h.some (omega (arith, h.second.low)) in
    omega (arith, h.shares.some)
words u t (suc f) g m n a b h = omega arith
words u t zero (suc g) m n a b h = omega arith

-- so that the first share is near t·f/(f + g)
pub one_most : (u t f g m n a b : ℕ) → Asked u t f g m n a b → (f + g) * a ≤ t * f + f
one_most u t f g m n a b h =
    let c = in-proportion u t f g m n h.some h.first h.second in
    cancel (m + n) ((f + g) * a) (t * f + f) h.shares.some
    (omega (arith, mul-le-mul_left (f + g) h.shares.one.low, mul-le-mul_left t c, mul-le-mul_left f h.over))

pub one_least : (u t f g m n a b : ℕ) → Asked u t f g m n a b → t * f < (f + g) * a + (f + g) + g
one_least u t f g m n a b h =
    let k : m * t + 1 ≤ (m + n) * a + (m + n) = omega (arith, h.shares.one.high) in
    let c = in-proportion u t g f n m h.some h.second h.first in
    let l : (m + n) * (t * f) < (m + n) * ((f + g) * a + (f + g) + g) = omega
    (arith, words u t f g m n a b h, mul-le-mul_left (f + g) k, mul-le-mul_left t c, mul-le-mul_left g h.over) in
    lt_of_mul-lt-mul_left (m + n) l

-- and both together near t
pub both_most : (u t f g m n a b : ℕ) → Asked u t f g m n a b → (f + g) * (a + b) ≤ t * (f + g)
both_most u t f g m n a b h = omega (arith, mul-le-mul_left (f + g) (sum_most t m n a b h.shares))

pub both_least : (u t f g m n a b : ℕ) → Asked u t f g m n a b → t * (f + g) < (f + g) * (a + b) + (f + g) + g
both_least u t f zero m n a b h = omega (arith, one_least u t f zero m n a b h)
both_least u t f (suc g) m n a b h = omega (arith, mul-le-mul_left (f + suc g) (sum_least t m n a b h.shares))
