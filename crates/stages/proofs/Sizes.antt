-- The sizes of a sound record's words: what the leaves of a step ask of their numbers.
-- Assumes nothing.
use mathlib.Core.Path.{◌≡◌}
use mathlib.Core.Bool.{true}
use Prim.Native.Nat.{◌≤◌}
use native.Mathlib.Nat.{le_trans}
use native.Mathlib.Omega.{arith}
use lib.Dec.{leb→le}
use lib.IntN.{ℤ, pos, nat_abs, ◌+ℤ◌}
use lib.Signed.{◌≤ℤ◌}
use Rattle.fixed.specs.Fixed.{is_in, inside}
use Rattle.fixed.proofs.Parts.{order}
use Rattle.fixed.proofs.Size.{abs←}
use Rattle.fixed.proofs.HeldLaws.{within_lo, within_hi, within_abs}
use Rattle.shaft.specs.Shaft.{counts, Count}
use Rattle.frames.specs.Frames.{sample_end}
use Rattle.regulator.specs.Regulator.{widest}
use Rattle.drive_record.specs.Record.{target_end}
use Rattle.modulation.specs.Modulation.{Period}
use Rattle.settings.specs.declared.Settings.{Settings}
use Rattle.drive_record.specs.declared.Drive.{Drive}
use Rattle.stages.specs.Step.{Currents}
use Rattle.stages.specs.Step.{sample_ok}
use Rattle.fixed.proofs.Ranges.{Inside, four, in-lo, in-hi, in-up, in_size, inside_size}
use Rattle.settings.specs.Ranges as range
use Rattle.drive_record.proofs.Ranges.{Sound}

-- ════ of a sound drive
module _ (d : Drive) (h : Sound d) where
  abbrev s : Settings
  s = d.settings

  pub v_lo : pos 1 ≤ℤ s.v
  v_lo = in-lo range.v s.v h.settings.v

  pub q_lo : pos 1 ≤ℤ s.q
  q_lo = in-lo range.q s.q h.settings.q

  pub v_size : nat_abs s.v ≤ (range.v).hi
  v_size = in_size range.v s.v h.settings.v

  pub q_size : nat_abs s.q ≤ (range.q).hi
  q_size = in_size range.q s.q h.settings.q

  pub kr_size : nat_abs s.kr ≤ (range.kr).hi
  kr_size = in_size range.kr s.kr h.settings.kr

  pub kt_size : nat_abs s.kt ≤ (range.kt).hi
  kt_size = in_size range.kt s.kt h.settings.kt

  pub kth_size : nat_abs s.kth ≤ (range.kth).hi
  kth_size = in_size range.kth s.kth h.settings.kth

  pub f_size : nat_abs s.f ≤ (range.f).hi
  f_size = in_size range.f s.f h.settings.f

  pub f_lo : pos 0 ≤ℤ s.f
  f_lo = in-up range.f s.f h.settings.f

  pub r_size : nat_abs s.r ≤ (range.r).hi
  r_size = in_size range.r s.r h.settings.r

  pub period : Period s.t
  period = record {
    up = in-up range.t s.t h.settings.t;
    size = le_trans (in_size range.t s.t h.settings.t) (leb→le _ _ tt);
  }

  pub target_size : nat_abs d.command.target ≤ target_end
  target_size = within_abs target_end d.command.target h.command.target

  pub reference_size : nat_abs d.command.reference ≤ target_end
  reference_size = within_abs target_end d.command.reference h.command.reference

  pub torque_size : nat_abs d.command.torque ≤ widest
  torque_size = inside_size s.q d.command.torque widest q_size h.command.torque

  pub flux_reference_size : nat_abs d.command.flux ≤ widest
  flux_reference_size =
      abs← widest d.command.flux
      (omega (arith, order, within_lo (pos 0) s.f d.command.flux h.command.flux))
      (omega (arith, order, within_hi (pos 0) s.f d.command.flux h.command.flux, in-hi range.f s.f h.settings.f))

  pub speed_integral_size : nat_abs d.integrals.speed ≤ widest
  speed_integral_size = inside_size s.q d.integrals.speed widest q_size h.integrals.speed

  pub d_integral_size : nat_abs d.integrals.d ≤ widest
  d_integral_size = inside_size s.v d.integrals.d widest (le_trans v_size (leb→le _ _ tt)) h.integrals.d

  pub q_integral_size : nat_abs d.integrals.q ≤ widest
  q_integral_size = inside_size s.v d.integrals.q widest (le_trans v_size (leb→le _ _ tt)) h.integrals.q

-- ════ of accepted samples
pub samples→ : (ia ib count : ℤ) → sample_ok ia ib count ≡ true
    → Inside (pos sample_end) ia × Inside (pos sample_end) ib × Inside (pos sample_end) (ia +ℤ ib) × Count count
unfolding sample_ok inside
samples→ ia ib count e = four (inside (pos sample_end) ia) (inside (pos sample_end) ib) (inside (pos sample_end) (ia +ℤ ib)) (is_in counts count) e

pub samples : (ia ib count : ℤ) → sample_ok ia ib count ≡ true → Currents ia ib
samples ia ib count e =
    let h = samples→ ia ib count e in
    record { ia_size = within_abs sample_end ia h.0; ib_size = within_abs sample_end ib h.1; both_size = within_abs sample_end (ia +ℤ ib) h.2 }
