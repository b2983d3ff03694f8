-- Demand 3: the regulator fact for each of the three regulators, and the modulation's laws, at an accepted step.
-- Assumes nothing.
use mathlib.Core.Path.{◌≡◌, refl, sym, ◌∙◌, ap, ap₂, subst}
use mathlib.Core.Bool.{Bool, true, false, cond, true≢false}
use Prim.Native.Nat.{◌≤◌}
use lib.IntN.{ℤ, pos, neg_ℤ, nat_abs, ◌-ℤ◌, ◌*ℤ◌}
use lib.Signed.{◌≤ℤ◌, ◌<ℤ◌, ≤ℤ_refl}
use Rattle.fixed.specs.Fixed.{Between, inside}
use Rattle.fixed.proofs.Equal.{ap₃}
use Rattle.fixed.proofs.HeldLaws.{within_lo, within_hi}
use Rattle.sine.specs.Sine.{sine_at, cosine_at}
use Rattle.sine.proofs.Rule.{sine_size, cosine_size}
use Rattle.regulator.specs.Regulator.{regulated, Lawful}
use Rattle.regulator.proofs.Fact as fact
use Rattle.frames.specs.declared.Stator.{Stator}
use Rattle.frames.specs.Frames.{inverse_park}
use Rattle.frames.proofs.FrameLaws.{back_alpha_size, back_beta_size}
use Rattle.shaft.specs.Shaft.{thirtieth, counted, measured}
use Rattle.modulation.specs.declared.Pulses.{Pulses}
use Rattle.modulation.specs.Modulation.{modulated, InPeriod, AllInPeriod, AsAsked, Shortened}
use Rattle.modulation.proofs.Compares.{compares_within, on_times}
use Rattle.modulation.proofs.Angle.{shortened}
use Rattle.drive_record.specs.declared.Drive.{Drive}
use Rattle.fixed.proofs.Ranges.{Inside}
use Rattle.drive_record.proofs.Ranges.{Sound, not_broken}
use Rattle.stages.specs.Step.{speed_gains, current_gains, speed_regulated, current_regulated, with_torque, with_speed, with_shaft, with_command, commanded}
use Rattle.stages.specs.Step.{rules_1_and_2, d_regulated, q_regulated, voltage_of, voltage_for, with_field, outcome, rules_6_to_9, rules_3_to_9, advanced}
use Rattle.drive.specs.Calls.{refused, stepped}
use Rattle.stages.proofs.Sizes as size
use Rattle.stages.proofs.Kept as kept
use Rattle.rows.specs.Rows.{row_stepped, ran_of}
use Rattle.rows.proofs.Runs.{rows_sound}
use Rattle.promises.specs.Histories.{row_at}
use Rattle.promises.specs.Words.{seen, issued, d_error, q_error, next, speed_error}
use Rattle.promises.specs.Demand3.{EachStep, EachStepAndRow, IntegralsWithin, IntegralsBetween}
use Rattle.promises.specs.Demand3.{OutputsLeave, PulsesAsAsked, AngleKept, ComparesOfAnyStep, ComparesOfAnyRow}
use Rattle.promises.proofs.Demand1.{passed, by_outcome}
use Rattle.promises.proofs.Demand2.{step_by_the_rules}
use Rattle.promises.proofs.Keeping.{reached_sound, turned_keeps, turned_settings, rows_settings}

-- ════ any history: the integrals within their limits
pub integrals_within : IntegralsWithin
unfolding inside
integrals_within d r = let h = (reached_sound d r).integrals in record { speed = h.speed; d_axis = h.d; q_axis = h.q }

-- ════ rules 1 and 2 leave the current integrals as they were
turned_d : (d : Drive) (count : ℤ) → (rules_1_and_2 d count).integrals.d ≡ d.integrals.d
unfolding commanded with_command with_speed with_shaft
turned_d d count = turned_keeps (λ d. d.integrals.d) d count refl refl

turned_q : (d : Drive) (count : ℤ) → (rules_1_and_2 d count).integrals.q ≡ d.integrals.q
unfolding commanded with_command with_speed with_shaft
turned_q d count = turned_keeps (λ d. d.integrals.q) d count refl refl

-- the same numbers under other names
renamed : {x y z w o : ℤ} → x ≡ y → z ≡ w → Between x w o → Between y z o
renamed {x} {z = z} {o = o} p q b = subst (λ (k : ℤ). Between k z o) p (subst (λ (k : ℤ). Between x k o) (sym q) b)

-- ════ an accepted step
module _ (d : Drive) (ia ib count : ℤ) (ok : (stepped d ia ib count).number ≡ pos 0) where
  abbrev new : Drive
  new = next d ia ib count

  abbrev mid : Drive
  mid = rules_1_and_2 d count

  met : Sound d
  met = (not_broken d).0 (passed d ia ib count ok).0

  rules : stepped d ia ib count ≡ advanced d ia ib count
  rules = step_by_the_rules d ia ib count ok

  mid_sound : Sound mid
  mid_sound = kept.rules_1_and_2_sound d count met (size.samples→ ia ib count (passed d ia ib count ok).1.1.0).3

  new_d : new.integrals.d ≡ (d_regulated mid (seen d ia ib)).x
  unfolding next advanced rules_3_to_9 rules_6_to_9 outcome with_field voltage_for voltage_of seen
  new_d = ap (λ s. s.drive.integrals.d) rules

  new_q : new.integrals.q ≡ (q_regulated mid (seen d ia ib)).x
  unfolding next advanced rules_3_to_9 rules_6_to_9 outcome with_field voltage_for voltage_of seen
  new_q = ap (λ s. s.drive.integrals.q) rules

  -- a current regulator, from the integral x and the error e
  abbrev out : ℤ → ℤ → ℤ
  out x e = (regulated x e (current_gains mid.settings) mid.settings.v).out

  current : Lawful (current_gains mid.settings)
  current = kept.current_lawful mid.settings mid_sound.settings

  between : (x e : ℤ) → Between x (regulated x e (current_gains mid.settings) mid.settings.v).x (out x e)
  unfolding regulated
  between x e = fact.next_between x e (current_gains mid.settings) mid.settings.v current (size.v_lo mid mid_sound)

  leaves_top : (x e : ℤ) → Inside mid.settings.v x → e <ℤ pos 0 → out x e <ℤ d.settings.v
  unfolding regulated
  leaves_top x e i h =
      subst (λ (v : ℤ). out x e <ℤ v) (ap (λ s. s.v) (turned_settings d count))
      (fact.leaves_top x e (current_gains mid.settings) mid.settings.v current (size.v_lo mid mid_sound)
      (within_hi (neg_ℤ mid.settings.v) mid.settings.v x i) h)

  leaves_bottom : (x e : ℤ) → Inside mid.settings.v x → pos 4096 ≤ℤ (e *ℤ d.settings.ckp) → neg_ℤ d.settings.v <ℤ out x e
  unfolding regulated current_gains
  leaves_bottom x e i h =
      subst (λ (v : ℤ). neg_ℤ v <ℤ out x e) (ap (λ s. s.v) (turned_settings d count))
      (fact.leaves_bottom x e (current_gains mid.settings) mid.settings.v current (size.v_lo mid mid_sound)
      (within_lo (neg_ℤ mid.settings.v) mid.settings.v x i)
      (subst (λ (k : ℤ). pos 4096 ≤ℤ (e *ℤ k)) (ap (λ s. s.ckp) (sym (turned_settings d count))) h))

  -- the speed regulator, which runs in a tick and gives the torque reference
  abbrev ticked : Drive
  ticked = commanded d (measured (counted d.shaft count) d.settings.kn)

  abbrev plain : Drive
  plain = with_shaft d (counted d.shaft count)

  -- rules 3 to 9 leave what rules 1 and 2 gave, and these are a tick or none
  mid_is : (b : Bool) → thirtieth d.shaft ≡ b → mid ≡ cond b ticked plain
  unfolding rules_1_and_2
  mid_is b t = ap (λ b. cond b ticked plain) t

  new_command : (b : Bool) → thirtieth d.shaft ≡ b → new.command ≡ (cond b ticked plain).command
  unfolding next advanced rules_3_to_9 rules_6_to_9 outcome with_field
  new_command b t = ap (λ s. s.drive.command) rules ∙ ap (λ m. m.command) (mid_is b t)

  new_shaft : (b : Bool) → thirtieth d.shaft ≡ b → new.shaft ≡ (cond b ticked plain).shaft
  unfolding next advanced rules_3_to_9 rules_6_to_9 outcome with_field
  new_shaft b t = ap (λ s. s.drive.shaft) rules ∙ ap (λ m. m.shaft) (mid_is b t)

  new_speed : (b : Bool) → thirtieth d.shaft ≡ b → new.integrals.speed ≡ (cond b ticked plain).integrals.speed
  unfolding next advanced rules_3_to_9 rules_6_to_9 outcome with_field voltage_for voltage_of
  new_speed b t = ap (λ s. s.drive.integrals.speed) rules ∙ ap (λ m. m.integrals.speed) (mid_is b t)

  speed : Lawful (speed_gains d.settings)
  speed = kept.speed_lawful d.settings met.settings

  error_is : thirtieth d.shaft ≡ true → speed_error d ia ib count ≡ ticked.command.reference -ℤ ticked.shaft.speed
  unfolding speed_error
  error_is t = ap₂ (λ (r n : ℤ). r -ℤ n) (ap (λ c. c.reference) (new_command true t)) (ap (λ s. s.speed) (new_shaft true t))

  -- each regulator runs by the regulator fact, from the integral that the drive had
  step_integrals : IntegralsBetween d ia ib count
  unfolding issued voltage_for voltage_of d_regulated q_regulated current_regulated
      commanded with_command with_torque with_speed with_shaft speed_regulated regulated
  step_integrals = record {
    d_axis = renamed (turned_d d count) new_d (between mid.integrals.d (mid.command.flux -ℤ (seen d ia ib).d));
    q_axis = renamed (turned_q d count) new_q (between mid.integrals.q (mid.command.torque -ℤ (seen d ia ib).q));
    speed = λ t.
        subst (λ (o : ℤ). Between d.integrals.speed new.integrals.speed o) (sym (ap (λ c. c.torque) (new_command true t)))
        (renamed refl (new_speed true t) (fact.next_between d.integrals.speed _ (speed_gains d.settings) d.settings.q speed (size.q_lo d met)));
    speed_stays = λ t. (new_speed false t, ap (λ c. c.torque) (new_command false t));
  }

  step_outputs : OutputsLeave d ia ib count
  unfolding d_error q_error issued voltage_for voltage_of d_regulated q_regulated current_regulated
      commanded with_command with_torque with_speed speed_regulated speed_gains regulated
  step_outputs = record {
    d_top = λ e. leaves_top mid.integrals.d (d_error d ia ib count) mid_sound.integrals.d e;
    d_bottom = λ e. leaves_bottom mid.integrals.d (d_error d ia ib count) mid_sound.integrals.d e;
    q_top = λ e. leaves_top mid.integrals.q (q_error d ia ib count) mid_sound.integrals.q e;
    q_bottom = λ e. leaves_bottom mid.integrals.q (q_error d ia ib count) mid_sound.integrals.q e;
    speed_top = λ t e.
        subst (λ (o : ℤ). o <ℤ d.settings.q) (sym (ap (λ c. c.torque) (new_command true t)))
        (fact.leaves_top d.integrals.speed _ (speed_gains d.settings) d.settings.q speed (size.q_lo d met)
        (within_hi (neg_ℤ d.settings.q) d.settings.q d.integrals.speed met.integrals.speed)
        (subst (λ (k : ℤ). k <ℤ pos 0) (error_is t) e));
    speed_bottom = λ t e.
        subst (λ (o : ℤ). neg_ℤ d.settings.q <ℤ o) (sym (ap (λ c. c.torque) (new_command true t)))
        (fact.leaves_bottom d.integrals.speed _ (speed_gains d.settings) d.settings.q speed (size.q_lo d met)
        (within_lo (neg_ℤ d.settings.q) d.settings.q d.integrals.speed met.integrals.speed)
        (subst (λ (k : ℤ). pos 4096 ≤ℤ (k *ℤ d.settings.skp)) (error_is t) e));
  }

  -- ════ the pulses
  abbrev pulses : Pulses
  pulses = (stepped d ia ib count).pulses

  abbrev volts : Stator
  volts = (stepped d ia ib count).voltage

  -- the voltage issued, in the stator's frame, is modulated
  voltage_is : volts ≡ inverse_park (issued d ia ib count) (sine_at d.field.angle) (cosine_at d.field.angle)
  unfolding advanced rules_3_to_9 rules_6_to_9 outcome issued seen
  voltage_is = ap (λ s. s.voltage) rules

  issued_size : (nat_abs (issued d ia ib count).d ≤ 4096) × (nat_abs (issued d ia ib count).q ≤ 4096)
  unfolding issued
  issued_size = kept.asked_size mid (seen d ia ib) mid_sound

  pulses_are : pulses ≡ modulated d.settings.t volts.alpha volts.beta
  unfolding advanced rules_3_to_9 rules_6_to_9 outcome with_field
  pulses_are =
      ap (λ s. s.pulses) rules
      ∙ ap₃ modulated (ap (λ s. s.t) (turned_settings d count)) (ap (λ s. s.voltage.alpha) (sym rules)) (ap (λ s. s.voltage.beta) (sym rules))

  step_pulses : PulsesAsAsked d ia ib count
  step_pulses =
      let a = d.field.angle in
      let i = issued d ia ib count in
      let z = issued_size in
      record {
        voltage = voltage_is;
        alpha_size =
            subst (λ (v : Stator). nat_abs v.alpha ≤ 8192) (sym voltage_is)
            (back_alpha_size 4096 4096 (sine_at a) (cosine_at a) (sine_size a) (cosine_size a) i z.0 z.1);
        beta_size =
            subst (λ (v : Stator). nat_abs v.beta ≤ 8192) (sym voltage_is)
            (back_beta_size 4096 4096 (sine_at a) (cosine_at a) (sine_size a) (cosine_size a) i z.0 z.1);
        in-period =
            subst (AllInPeriod d.settings.t) (sym pulses_are) (compares_within d.settings.t volts.alpha volts.beta (size.period d met).up);
        near = λ e.
            subst (AsAsked d.settings.t volts.alpha volts.beta) (sym pulses_are)
            (on_times d.settings.t volts.alpha volts.beta (ap (λ p. p.clipped) (sym pulses_are) ∙ e));
      }

  step_angle : AngleKept d ia ib count
  step_angle e =
      subst (Shortened d.settings.t volts.alpha volts.beta) (sym pulses_are)
      (shortened d.settings.t volts.alpha volts.beta (size.period d met).up (ap (λ p. p.clipped) (sym pulses_are) ∙ e))

-- ════ of every step, and so of every row: a row is a step of the drive that the rows before it leave
pub step_and_row : (Holds : Drive → ℤ → ℤ → ℤ → Type 0) → EachStep Holds → EachStepAndRow Holds
unfolding row_at row_stepped
step_and_row Holds h = (h, λ d samples i ok. h (ran_of d samples i).drive _ _ _ ok)

pub integrals_between : EachStepAndRow IntegralsBetween
integrals_between = step_and_row IntegralsBetween step_integrals

pub outputs_leave : EachStepAndRow OutputsLeave
outputs_leave = step_and_row OutputsLeave step_outputs

pub pulses_as_asked : EachStepAndRow PulsesAsAsked
pulses_as_asked = step_and_row PulsesAsAsked step_pulses

pub angle_kept : EachStepAndRow AngleKept
angle_kept = step_and_row AngleKept step_angle

-- ════ any history: the compares of any step, accepted or refused, and of any row of a run
in-any-step : (d : Drive) → Sound d → (ia ib count : ℤ) → AllInPeriod d.settings.t (stepped d ia ib count).pulses
unfolding refused
in-any-step d h ia ib count =
    let t = d.settings.t in
    let closed : InPeriod t t = record { lo = (size.period d h).up; hi = ≤ℤ_refl t } in
    by_outcome d ia ib count (λ s. AllInPeriod t s.pulses)
    (λ b. absurd (true≢false (sym b ∙ (not_broken d).1 h))) (λ n o e. (closed, closed, closed)) (λ n o. (closed, closed, closed))
    (λ ok. subst (λ s. AllInPeriod t s.pulses) (step_by_the_rules d ia ib count ok) (step_pulses d ia ib count ok).in-period)

pub compares_of_any_step : ComparesOfAnyStep
compares_of_any_step d r ia ib count = in-any-step d (reached_sound d r) ia ib count

pub compares_of_any_row : ComparesOfAnyRow
unfolding row_at row_stepped
compares_of_any_row d r samples i =
    subst (λ s. AllInPeriod s.t (row_at d samples i).pulses) (rows_settings d samples i)
    (in-any-step (ran_of d samples i).drive (rows_sound d samples i (reached_sound d r)) _ _ _)
