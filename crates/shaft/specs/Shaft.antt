-- Encoder, window, speed, ramp and field weakening: rules 1 and 2 of docs/RULES.md, but for the speed regulator.
use Rattle.std.specs.Prelude.{◌≡◌, ℕ, zero, suc, ◌*◌, ◌≤◌, Bool, true, false, cond, ◌&&◌, ℤ, pos, ◌+ℤ◌, ◌-ℤ◌, ◌*ℤ◌, neg_ℤ, int_le, int_lt, unsigned_abs}
use Rattle.fixed.specs.Fixed.{down, modulo, held, equal, inside, Range, is_in}
use Rattle.shaft.specs.declared.Shaft.{Shaft}

-- ════ the sizes
-- a count, and the steps in the window
abbrev pub counts : Range
counts = record { lo = 0; hi = 65535 }

abbrev pub window : Range
window = record { lo = 0; hi = 29 }

-- the largest movement of a step, and the highest speed
abbrev pub farthest : ℕ
farthest = 32768

abbrev pub fastest : ℕ
fastest = 16383

-- ════ rules 1 and 2
-- m, less 65536 where it is 32768 or more
unfoldable pub signed16 : ℤ → ℤ
signed16 m = cond (int_lt m (pos 32768)) m (m -ℤ pos 65536)

-- the movement: (count − stored count) modulo 65536, less 65536 where that is 32768 or more
unfoldable pub movement : ℤ → ℤ → ℤ
movement count previous = signed16 (modulo (count -ℤ previous) (pos 65536))

-- where no count has been seen the movement is 0
unfoldable pub moved : Shaft → ℤ → ℤ
moved s count = cond s.seen (movement count s.count) (pos 0)

-- rule 1: the sum grows by the movement, the steps by 1; the count is stored, and seen becomes true
unfoldable pub counted : Shaft → ℤ → Shaft
counted s count =
    record { count = count; seen = true; sum = s.sum +ℤ moved s count; steps = s.steps +ℤ pos 1; speed = s.speed }

-- rule 2: a tick, exactly where the steps were 29 before this one
unfoldable pub thirtieth : Shaft → Bool
thirtieth s = equal (pos window.hi) s.steps

-- speed n = sum·Kn/256 down, held to ±16383
unfoldable pub speed_of : ℤ → ℤ → ℤ
speed_of sum kn = held (down (sum *ℤ kn) (pos 256)) (neg_ℤ (pos fastest)) (pos fastest)

-- the speed of the window; then sum and steps become 0
unfoldable pub measured : Shaft → ℤ → Shaft
measured s kn =
    record { count = s.count; seen = s.seen; sum = pos 0; steps = pos 0; speed = speed_of s.sum kn }

-- The reference becomes the target where that is at most R away, else it moves R towards it: the target, held to what is R from the reference.
unfoldable pub ramped_to : ℤ → ℤ → ℤ → ℤ
ramped_to reference target r = held target (reference -ℤ r) (reference +ℤ r)

-- k such moves
unfoldable pub ramped : ℕ → ℤ → ℤ → ℤ → ℤ
ramped zero reference target r = reference
ramped (suc k) reference target r = ramped_to (ramped k reference target r) target r

-- |n|
unfoldable pub size_of : ℤ → ℤ
size_of n = pos (unsigned_abs n)

-- the flux reference: F where n is within ±4096, else F·4096/|n| down
unfoldable pub weakened : ℤ → ℤ → ℤ
weakened f n = cond (int_le (size_of n) (pos 4096)) f (down (f *ℤ pos 4096) (size_of n))

-- ════ the shaft's words
-- no count seen yet, an empty window, no speed
abbrev pub unmoved : Shaft
unmoved = record { count = pos 0; seen = false; sum = pos 0; steps = pos 0; speed = pos 0 }

-- stored count 0..65535, steps in the window 0..29, movement sum within ±32768 times them, speed ±16383
unfoldable pub shaft_ok : Shaft → Bool
shaft_ok s =
    is_in counts s.count
    && is_in window s.steps
    && inside (pos farthest *ℤ s.steps) s.sum
    && inside (pos fastest) s.speed

-- ════ what the code asks of its numbers
abbrev pub Count : ℤ → Type 0
Count c = is_in counts c ≡ true

pub record ShaftSized (s : Shaft) : Type 0 where
  pub count : Count s.count
  pub sum : unsigned_abs s.sum ≤ farthest * window.hi
  pub steps : unsigned_abs s.steps ≤ window.hi
