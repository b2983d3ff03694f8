-- The record after a call, as the code finds it: a number or a word that is passed is read back from its bits.
-- Assumes nothing.
use Rattle.std.proofs.Common.{◌≡◌, refl, Bool, true, false, ℤ, pos, w32, SFits, of_z, to_z, arith}
use mir.Facts.{to_z-of_z}
use Rattle.fixed.specs.Fixed.{within}
use Rattle.drive_record.specs.declared.Drive.{Drive}
use Rattle.stages.specs.declared.Stepped.{Stepped}
use Rattle.drive.specs.declared.Answered.{Answered}
use Rattle.drive.specs.Calls.{cleared}
use Rattle.moments.specs.declared.Row.{Row}
use Rattle.moments.specs.declared.Moments.{Moments}
use Rattle.moments.specs.declared.Emptied.{Emptied}
use Rattle.moments.specs.Moments.{put, row_of, kept, emptied, emptied_by}

pub kept_accepted : (m n : Moments) (r : Row) (ia ib : ℤ) (s : Stepped) → SFits w32 ia → SFits w32 ib → SFits w32 s.number → of_z w32 s.number ≡ 0 →
    r ≡ row_of (to_z w32 (of_z w32 ia)) (to_z w32 (of_z w32 ib)) s → n ≡ put m r → n ≡ kept m ia ib s
unfolding kept
kept_accepted m n r ia ib s f g k e row after = grind (arith, to_z-of_z)

pub kept_refused : (m : Moments) (ia ib : ℤ) (s : Stepped) → SFits w32 s.number → (of_z w32 s.number ≡ 0 → ⊥) → m ≡ kept m ia ib s
unfolding kept
kept_refused m ia ib s f e = grind arith

-- the same where a range tests the number, as `fixed::within` does
pub kept_within : (m n : Moments) (r : Row) (ia ib : ℤ) (s : Stepped) (t : Bool) → SFits w32 ia → SFits w32 ib → SFits w32 s.number → t ≡ true →
    t ≡ within (pos 0) (pos 0) (to_z w32 (of_z w32 s.number)) → r ≡ row_of (to_z w32 (of_z w32 ia)) (to_z w32 (of_z w32 ib)) s → n ≡ put m r →
    n ≡ kept m ia ib s
unfolding kept
kept_within m n r ia ib s t f g k h e row after = grind (arith, to_z-of_z)

pub kept_outside : (m : Moments) (ia ib : ℤ) (s : Stepped) (t : Bool) → SFits w32 s.number → t ≡ false →
    t ≡ within (pos 0) (pos 0) (to_z w32 (of_z w32 s.number)) → m ≡ kept m ia ib s
unfolding kept
kept_outside m ia ib s t f h e = grind (arith, to_z-of_z)

-- either test
pub ruleset keeping = (kept_accepted, kept_refused, kept_within, kept_outside)

pub emptied_parts : (d : Drive) (m n : Moments) (a : Answered) → a ≡ cleared d → SFits w32 a.number → n ≡ emptied_by m (to_z w32 (of_z w32 a.number)) →
    ◌≡◌ {A = Emptied} (record { answer = a; moments = n }) (emptied d m)
unfolding emptied
emptied_parts d m n a e f h = rw (h, to_z-of_z f, e) refl
