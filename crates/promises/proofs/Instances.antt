-- The instances, by the values that the crates below give at the bench: only the promises' words, the calls and the order of the rules are opened here, and,
-- for the step that is clipped, the regulators and the way back to the stator at the end of their ranges.
-- Assumes nothing.
use mathlib.Core.Path.{◌≡◌, refl, ap}
use mathlib.Core.Bool.{true, false}
use mathlib.Core.List.{[]}
use native.Mathlib.Omega.{arith}
use lib.IntN.{ℤ, pos, negsuc, ◌-ℤ◌}
use lib.Signed.{lt_z_yes, le_z_yes}
use Rattle.fixed.specs.Fixed.{down, held}
use Rattle.fixed.specs.declared.refusal.Refusal.TheVariants.{Untied}
use Rattle.fixed.proofs.Ranges.{Inside}
use Rattle.regulator.specs.Regulator.{sum_of, out_of, next_of, regulated}
use Rattle.frames.specs.Frames.{inverse_park}
use Rattle.modulation.proofs.Cases.{clipped_case}
use Rattle.settings.proofs.Ranges.{checked_refused}
use Rattle.drive_record.specs.Record.{target_end, broken}
use Rattle.drive_record.proofs.Ranges.{not_broken}
use Rattle.stages.specs.Step.{ramped_by, with_torque, with_shaft, with_command, commanded, rules_1_and_2, currents, with_field, outcome, rules_6_to_9}
use Rattle.stages.specs.Step.{rules_3_to_9, advanced}
use Rattle.stages.specs.Step.{field_after, current_gains, current_regulated, d_regulated, q_regulated, voltage_of, voltage_for}
use Rattle.stages.proofs.AtBench as value
use Rattle.drive.specs.Calls.{fresh, with_trip, retargeted, with_target, stepped}
use Rattle.drive.proofs.CallLaws.{refused_broken}
use Rattle.drive.proofs.Kept.{trip_sound, target_sound}
use Rattle.drive.proofs.AtBench.{bench_sound, bench_intact, targets, once, first}
use Rattle.rows.specs.Rows.{row_stepped, is_accepted, no_rows, ran_of, rows_fit}
use Rattle.promises.specs.Histories.{after_call, after_calls, row_at, Quiet, steps_in, steps_of, clears, NoClear}
use Rattle.promises.specs.Words.{seen, d_error, q_error, next, speed_error}
use Rattle.promises.specs.Instances.{rested, waiting, untied, spoiled, TablesMet, Taken, StepsMet, TicksMet, HistoryMet, quiet, QuietMet}
use Rattle.ring.specs.Ring.{in_range, place_in, rows_in, place_after, one_more, oldest_first}
use Rattle.stages.specs.declared.Stepped.{Stepped}
use Rattle.moments.specs.Moments.{none, real_rows, put, row_at as moment_row, moment_at, row_of, kept, recorded}
use Rattle.moments.specs.Recordings.{after, after_all}
use Rattle.promises.specs.Flux.{Sees, HeldAt}
use Rattle.promises.specs.Starred.{current}
use Rattle.promises.specs.Instances.{pressed, ClippedMet, rising, FluxMet, MomentsMet}
use Rattle.promises.proofs.Demand1.{step_table_lem, target_table_lem, clear_table_lem}
use Rattle.promises.proofs.Demand2.{step_by_the_rules, run_of_none}
use Rattle.promises.proofs.Window.{quiet_no_clear}

pub tables_met : TablesMet
unfolding fresh with_trip rows_fit
tables_met =
    let b = refused_broken spoiled Untied value.untied_refused in
    let j = (not_broken (with_trip rested)).1 (trip_sound rested bench_sound) in
    record {
      settings = (value.bench_accepted, (checked_refused untied Untied value.untied_refused).0);
      step = (b, (j, refl), (bench_intact, (refl, (value.samples).3)), (bench_intact, (refl, ((value.samples).0, tt))));
      target = (b, (j, refl), (bench_intact, (refl, targets.1)), (bench_intact, (refl, (targets.0, tt))));
      clear = (b, (bench_intact, refl), (j, (refl, tt)));
      run = (b, (bench_intact, refl), (bench_intact, refl), (bench_intact, (refl, tt)));
    }

pub steps_met : StepsMet
unfolding d_error q_error seen rules_1_and_2 with_shaft currents fresh
steps_met = record {
  angle = record { lo = le_z_yes tt; hi = le_z_yes tt };
  plain = (ap (λ s. s.number) first, (value.start).0, ap (λ s. s.pulses.clipped) first);
  forth = ((step_table_lem rested (pos 3000) (pos 0) (pos 0)).given 3).1 (bench_intact, (refl, ((value.samples).1, tt)));
  negative = rw ((value.start).0, value.bench_is, value.sine_at_0, value.cosine_at_0, (value.seen).1) (lt_z_yes tt, lt_z_yes tt);
  back = ((step_table_lem rested (negsuc 2999) (pos 0) (pos 0)).given 3).1 (bench_intact, (refl, ((value.samples).2, tt)));
  worth = rw ((value.start).0, value.bench_is, value.sine_at_0, value.cosine_at_0, (value.seen).2) (le_z_yes tt, le_z_yes tt);
}

-- ════ a step that is clipped: both current regulators give all that they may, from the end of their integrals
full : (regulated (pos 4096) (pos 2458) current (pos 4096) ≡ record { out = pos 4096; x = pos 4096 })
    × (regulated (pos 4096) (pos 0) current (pos 4096) ≡ record { out = pos 4096; x = pos 4096 })
    × (inverse_park (record { d = pos 4096; q = pos 4096 }) (pos 0) (pos 4096) ≡ record { alpha = pos 4096; beta = pos 4096 })
unfolding regulated out_of next_of sum_of inverse_park down held
full = (refl, refl, refl)

pressed_intact : broken pressed ≡ false
unfolding pressed with_field fresh
pressed_intact =
    let h = bench_sound in
    (not_broken pressed).1
    (record {
      settings = h.settings;
      shaft = h.shaft;
      command = h.command;
      field = h.field;
      integrals = rw value.bench_is (record { speed = refl; d = refl; q = refl });
    })

pressed_step : stepped pressed (pos 0) (pos 0) (pos 0) ≡ record {
  drive = with_field (with_shaft pressed (value.standing (pos 1))) pressed.field pressed.integrals;
  number = pos 0;
  pulses = record { a = pos 0; b = pos 160; c = pos 599; clipped = true };
  voltage = record { alpha = pos 4096; beta = pos 4096 };
}
unfolding pressed stepped advanced rules_3_to_9 rules_6_to_9 outcome with_field field_after voltage_for voltage_of d_regulated q_regulated current_regulated current_gains
    rules_1_and_2 with_shaft currents fresh
pressed_step =
    rw (pressed_intact, (value.samples).0, value.bench_is, (value.start).0, (value.start).1, value.sine_at_0, value.cosine_at_0, (value.seen).0)
    (rw (full.0, full.1, full.2, clipped_case, value.stays_still))

pub clipped_met : ClippedMet
clipped_met = record {
  taken = ap (λ s. s.number) pressed_step;
  pulses = ap (λ s. s.pulses) pressed_step;
  voltage = ap (λ s. s.voltage) pressed_step;
}

-- ════ ticks, with a target t
module _ (t : ℤ) (i : Inside (pos target_end) t) where
  ready : broken (waiting t) ≡ false
  unfolding waiting with_shaft
  ready =
      let h = target_sound rested t bench_sound i in
      (not_broken (waiting t)).1 (record { settings = h.settings; shaft = value.standing_in; command = h.command; field = h.field; integrals = h.integrals })

  tick_taken : Taken (waiting t) (pos 0)
  unfolding waiting with_shaft with_target fresh
  tick_taken = ((step_table_lem (waiting t) (pos 0) (pos 0) (pos 0)).given 3).1 (ready, (refl, ((value.samples).0, tt)))

  -- the target stays, nothing trips, and the speed is 0
  after_tick : let d = next (waiting t) (pos 0) (pos 0) (pos 0) in
      (d.command.target ≡ t) × (d.tripped ≡ false) × (speed_error (waiting t) (pos 0) (pos 0) (pos 0) ≡ (ramped_by (waiting t) (pos 0)).reference -ℤ pos 0)
  unfolding next speed_error advanced rules_3_to_9 rules_6_to_9 outcome with_field rules_1_and_2 commanded with_command with_torque ramped_by waiting with_shaft with_target
      retargeted fresh
  after_tick = rw (next, step_by_the_rules (waiting t) (pos 0) (pos 0) (pos 0) tick_taken, (value.tick).0, value.bench_is, (value.tick).1) (refl, refl, refl)

pub ticks_met : TicksMet
unfolding ramped_by waiting with_shaft with_target retargeted fresh row_at row_stepped ran_of no_rows
ticks_met = record {
  down = (tick_taken (negsuc 99) refl, (value.tick).0);
  negative = rw ((after_tick (negsuc 99) refl).2, value.bench_is, (value.ramp).1) (lt_z_yes tt);
  up = (tick_taken (pos 100) refl, (value.tick).0);
  worth = rw ((after_tick (pos 100) refl).2, value.bench_is, (value.ramp).0) (le_z_yes tt);
  row = tick_taken (pos 100) refl;
}

-- ════ histories
pub history_met : HistoryMet
unfolding after_calls
history_met = record { settings = _; are_accepted = value.bench_accepted; calls = []; leads = refl }

-- the calls but the tick leave the drive
pub quiet_met : QuietMet
unfolding Quiet after_call no_rows next waiting with_shaft with_target retargeted fresh
quiet_met =
    let w = waiting (pos 100) in
    let b = ready (pos 100) refl in
    let a = after_tick (pos 100) refl in
    let q : Quiet w quiet = rw (
      after_call,
      (target_table_lem w (pos 8192)).then 2 (b, (refl, targets.1)),
      (clear_table_lem w).then 1 (b, refl),
      (run_of_none w [] b).0,
    )
    (refl, refl, (refl, refl, (refl, refl, (a.0, a.1, tt)))) in
    record { intact = b; untripped = refl; calls = q; none_clears = quiet_no_clear w quiet b refl q }

rising_intact : broken rising ≡ false
unfolding rising with_field
rising_intact =
    let h = bench_sound in
    (not_broken rising).1
    (record { settings = h.settings; shaft = h.shaft; command = h.command; field = record { fine = refl; angle = refl }; integrals = h.integrals })

rising_taken : Taken rising (pos 3000)
unfolding rising with_field fresh
rising_taken = ((step_table_lem rising (pos 3000) (pos 0) (pos 0)).given 3).1 (rising_intact, (refl, ((value.samples).1, tt)))

pub flux_met : FluxMet
unfolding next once rising with_field with_shaft fresh NoClear clears HeldAt Sees seen currents steps_of steps_in is_accepted
flux_met = record {
  rests = ap (λ s. s.drive.field.fine) first;
  intact = rising_intact;
  none_clears = (refl, tt);
  held = (λ ok. rw (value.sine_at_0, value.cosine_at_0, (value.seen).1) refl, tt);
  enough = rw (rising_taken, value.bench_is) (omega arith);
}

pub moments_met : MomentsMet
unfolding after_all after recorded kept row_of put none moment_at moment_row oldest_first place_in rows_in in_range place_after one_more
    fresh once with_field with_shaft
moments_met = record {
  how_many = ap (λ (s : Stepped). real_rows (kept none (pos 0) (pos 0) s)) first;
  first = ap (λ (s : Stepped). moment_at (kept none (pos 0) (pos 0) s) (pos 0)) first;
  wild = (record { ia = refl; ib = refl; speed = refl; a = refl; b = refl; c = refl }, refl);
}
