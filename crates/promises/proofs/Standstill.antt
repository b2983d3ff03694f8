-- The bench drive from fresh, with the current 2458 on the d axis and the shaft at count 0: the angle stays 0, so that every step sees the same current, and
-- the flux goes from rest as the flux model says.
-- Assumes nothing.
use mathlib.Core.Path.{◌≡◌, refl, sym, ◌∙◌, ap, ap₂, subst}
use mathlib.Core.Bool.{false}
use Prim.Native.Nat.{ℕ, zero, suc}
use native.Mathlib.Omega.{arith}
use lib.IntN.{ℤ, pos, negsuc}
use Rattle.fixed.proofs.Choice.{choose}
use Rattle.field.specs.Field.{flux_of, followed}
use Rattle.field.specs.Promised.{held_for}
use Rattle.field.proofs.FieldLaws.{stands}
use Rattle.field.proofs.FromRest.{ends_at_2457}
use Rattle.shaft.specs.Shaft.{thirtieth}
use Rattle.shaft.proofs.Standing.{Stands, counted_stands, measured_stands}
use Rattle.settings.specs.BenchSettings.{bench_settings}
use Rattle.drive_record.specs.declared.Drive.{Drive}
use Rattle.drive_record.proofs.Ranges.{Sound, not_broken}
use Rattle.stages.specs.Step.{with_shaft, with_command, commanded, rules_1_and_2, currents, field_after, with_field, outcome, rules_6_to_9, rules_3_to_9}
use Rattle.stages.specs.Step.{advanced}
use Rattle.stages.proofs.AtBench as value
use Rattle.drive.specs.Calls.{fresh, stepped}
use Rattle.drive.proofs.Kept.{stepped_sound_lem}
use Rattle.drive.proofs.AtBench.{bench_sound, bench_intact}
use Rattle.rows.specs.Rows.{is_accepted}
use Rattle.promises.specs.Histories.{after_call, steps_in, steps_of, clears, NoClear}
use Rattle.promises.specs.Words.{seen}
use Rattle.promises.specs.Flux.{Sees, HeldAt, magnetised, BenchEndsAt2457}
use Rattle.promises.proofs.Demand1.{step_table_lem}
use Rattle.promises.proofs.Demand2.{step_by_the_rules}
use Rattle.promises.proofs.Keeping.{turned_keeps}
use Rattle.promises.proofs.Flux.{turned_field, flux_arrives}

-- a drive that is ready, at angle 0, with its shaft standing
record Ready (d : Drive) : Type 0 where
  is_sound : Sound d
  untripped : d.tripped ≡ false
  angle : d.field.angle ≡ pos 0
  shaft : Stands d.shaft

-- ════ one step
module _ (d : Drive) (h : Ready d) where
  abbrev mid : Drive
  mid = rules_1_and_2 d (pos 0)

  taken : (stepped d (pos 2458) (negsuc 1228) (pos 0)).number ≡ pos 0
  taken =
      ((step_table_lem d (pos 2458) (negsuc 1228) (pos 0)).given 3).1
      ((not_broken d).1 h.is_sound, (h.untripped, (value.sample_along_d, tt)))

  sees : seen d (pos 2458) (negsuc 1228) ≡ record { d = pos 2458; q = pos 0 }
  unfolding seen currents
  sees = rw (h.angle, value.sine_at_0, value.cosine_at_0) value.along_d

  mid_stands : Stands mid.shaft
  unfolding rules_1_and_2 commanded with_command with_shaft
  mid_stands =
      choose (λ (m : Drive). Stands m.shaft) (thirtieth d.shaft) _ _
      (λ e. measured_stands _ d.settings.kn (counted_stands d.shaft h.shaft)) (λ e. counted_stands d.shaft h.shaft)

  mid_untripped : mid.tripped ≡ d.tripped
  unfolding commanded with_command with_shaft
  mid_untripped = turned_keeps (λ d. d.tripped) d (pos 0) refl refl

  angle_stays : (field_after mid (seen d (pos 2458) (negsuc 1228))).angle ≡ pos 0
  unfolding field_after
  angle_stays =
      let s = mid.settings in
      let i = seen d (pos 2458) (negsuc 1228) in
      ap₂ (λ (q n : ℤ). (followed s.kr s.kt s.kth mid.field i.d q n).angle) (ap (λ i. i.q) sees) mid_stands.speed
      ∙ stands s.kr s.kt s.kth mid.field i.d (ap (λ f. f.angle) (turned_field d (pos 0)) ∙ h.angle)

  ready : Ready (stepped d (pos 2458) (negsuc 1228) (pos 0)).drive
  unfolding advanced rules_3_to_9 rules_6_to_9 outcome with_field seen
  ready =
      let e = sym (step_by_the_rules d (pos 2458) (negsuc 1228) (pos 0) taken) in
      record {
        is_sound = stepped_sound_lem d (pos 2458) (negsuc 1228) (pos 0) h.is_sound;
        untripped = subst (λ s. s.drive.tripped ≡ false) e (mid_untripped ∙ h.untripped);
        angle = subst (λ s. s.drive.field.angle ≡ pos 0) e angle_stays;
        shaft = subst (λ s. Stands s.drive.shaft) e mid_stands;
      }

-- ════ step after step
held : (n : ℕ) (d : Drive) → Ready d → HeldAt (pos 2458) d (magnetised n)
unfolding HeldAt Sees magnetised after_call
held zero d h = tt
held (suc n) d h = (λ ok. ap (λ i. i.d) (sees d h), held n _ (ready d h))

none_clears : (n : ℕ) (d : Drive) → NoClear d (magnetised n)
unfolding NoClear clears magnetised
none_clears zero d = tt
none_clears (suc n) d = (refl, none_clears n _)

counted : (n : ℕ) (d : Drive) → Ready d → steps_of d (magnetised n) ≡ n
unfolding steps_of steps_in magnetised after_call is_accepted
counted zero d h = refl
counted (suc n) d h = rw (taken d h) (omega (arith, counted n _ (ready d h)))

bench_ready : Ready (fresh bench_settings)
unfolding fresh
bench_ready = record { is_sound = bench_sound; untripped = refl; angle = refl; shaft = record { count = refl; sum = refl; speed = refl } }

pub bench_ends_at_2457 : BenchEndsAt2457
unfolding fresh
bench_ends_at_2457 n =
    let d = fresh bench_settings in
    let held-is = (flux_arrives (pos 2458) d (magnetised n) bench_intact (none_clears n d) (held n d bench_ready)).fine in
    let by_n = ap₂ (λ (m : ℕ) (k : ℤ). held_for m k (pos 0) (pos 2458)) (counted n d bench_ready) (ap (λ s. s.kr) value.bench_is) in
    let e = ap flux_of (held-is ∙ by_n) in
    let ends = ends_at_2457.flux n in
    (λ f. ends.0 (sym e ∙ f), λ l. e ∙ ends.1 l)
