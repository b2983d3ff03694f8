-- The words of a field that is in range, by name: `field_ok f ≡ true` exactly when `FieldIn f`. Rule 6 keeps the range.
-- Assumes nothing.
use mathlib.Core.Path.{◌≡◌, refl}
use mathlib.Core.Bool.{true}
use Prim.Native.Nat.{◌≤◌}
use lib.IntN.{ℤ, pos, nat_abs}
use lib.Signed.{◌≤ℤ◌}
use Rattle.fixed.specs.Fixed.{inside, is_in}
use Rattle.fixed.proofs.HeldLaws.{and_both, within_yes, within_abs, within_of}
use Rattle.fixed.proofs.Ranges.{In, Inside, two, in_size}
use Rattle.field.specs.declared.Field.{Field}
use Rattle.field.specs.Field.{flux_end, fine_end, angles, still, fine_next, followed, field_ok}
use Rattle.field.proofs.FieldLaws as law

pub record FieldIn (f : Field) : Type 0 where
  pub fine : Inside (pos fine_end) f.fine
  pub angle : In angles f.angle

pub field→ : (f : Field) → field_ok f ≡ true → FieldIn f
unfolding field_ok inside
field→ f e = let h = two (inside (pos fine_end) f.fine) (is_in angles f.angle) e in record { fine = h.0; angle = h.1 }

pub field← : (f : Field) → FieldIn f → field_ok f ≡ true
unfolding field_ok inside
field← f i = and_both i.fine i.angle

pub fine_size : (f : Field) → FieldIn f → nat_abs f.fine ≤ fine_end
fine_size f i = within_abs fine_end f.fine i.fine

pub angle_size : (f : Field) → FieldIn f → nat_abs f.angle ≤ angles.hi
angle_size f i = in_size angles f.angle i.angle

-- ════ what keeps the range
pub still_in : FieldIn still
still_in = record { fine = refl; angle = refl }

pub followed_in : (kr kt kth : ℤ) (f : Field) (d q n : ℤ) → pos 0 ≤ℤ kr → kr ≤ℤ pos 4096 → FieldIn f → nat_abs d ≤ flux_end → FieldIn
    (followed kr kt kth f d q n)
unfolding followed
followed_in kr kt kth f d q n k0 k1 i h = record {
  fine = within_of fine_end (fine_next kr f.fine d) (law.fine_size kr f.fine d k0 k1 (fine_size f i) h);
  angle = within_yes (pos 0) (pos angles.hi) _ (law.angle_lo _ _ _) (law.angle_hi _ _ _);
}
