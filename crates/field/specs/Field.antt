-- The flux model (docs/RULES.md, rule 6).
use Rattle.std.specs.Prelude.{ℕ, ◌≤◌, Bool, cond, ◌&&◌, ℤ, pos, neg_ℤ, nat_abs, ◌+ℤ◌, ◌-ℤ◌, ◌*ℤ◌}
use Rattle.std.specs.Int.Signed.{lt_z}
use Rattle.fixed.specs.Fixed.{down, modulo, held, inside, Range, is_in}
use Rattle.field.specs.declared.Field.{Field}

-- ════ the sizes: flux and currents, fine flux, slip, speed, angle
abbrev pub flux_end : ℕ
flux_end = 20000

abbrev pub fine_end : ℕ
fine_end = 81920000

abbrev pub slip_end : ℕ
slip_end = 16383

abbrev pub speed_end : ℕ
speed_end = 16383

abbrev pub angles : Range
angles = record { lo = 0; hi = 65535 }

-- ════ rule 6
-- fine' = fine + Kr·(4096·d − fine)/4096 down
unfoldable pub fine_next : ℤ → ℤ → ℤ → ℤ
fine_next kr fine d = fine +ℤ down (kr *ℤ (pos 4096 *ℤ d -ℤ fine)) (pos 4096)

-- the flux is fine/4096 down
unfoldable pub flux_of : ℤ → ℤ
flux_of fine = down fine (pos 4096)

-- slip is 0 if flux' < 41, else Kt·q/flux' down, held to ±16383
unfoldable pub slip : ℤ → ℤ → ℤ → ℤ
slip kt flux q = cond (lt_z flux (pos 41)) (pos 0) (held (down (kt *ℤ q) flux) (neg_ℤ (pos slip_end)) (pos slip_end))

-- angle' = angle + Kth·(n + slip)/4096 down, modulo 65536; w is n + slip
unfoldable pub angle_next : ℤ → ℤ → ℤ → ℤ
angle_next kth angle w = modulo (angle +ℤ down (kth *ℤ w) (pos 4096)) (pos 65536)

-- rule 6: from the currents d, q and the speed n; slip is of flux', which is the new fine flux's
unfoldable pub followed : ℤ → ℤ → ℤ → Field → ℤ → ℤ → ℤ → Field
followed kr kt kth f d q n = record {
  fine = fine_next kr f.fine d;
  angle = angle_next kth f.angle (n +ℤ slip kt (flux_of (fine_next kr f.fine d)) q);
}

-- ════ the field's words
-- no flux, at angle 0
abbrev pub still : Field
still = record { fine = pos 0; angle = pos 0 }

-- fine ±81920000, angle 0..65535
unfoldable pub field_ok : Field → Bool
field_ok f = inside (pos fine_end) f.fine && is_in angles f.angle

-- ════ what the code asks of its numbers
pub record FieldSized (kr kt kth : ℤ) (f : Field) (d q n : ℤ) : Type 0 where
  pub kr_size : nat_abs kr ≤ 4096
  pub kt_size : nat_abs kt ≤ 32767
  pub kth_size : nat_abs kth ≤ 8191
  pub fine_size : nat_abs f.fine ≤ fine_end
  pub angle_size : nat_abs f.angle ≤ angles.hi
  pub d_size : nat_abs d ≤ flux_end
  pub q_size : nat_abs q ≤ flux_end
  pub n_size : nat_abs n ≤ speed_end
