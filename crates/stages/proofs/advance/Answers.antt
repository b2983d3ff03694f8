-- `stages::advance` meets its contract: rules 1 and 2, then 3 to 5, then 6 to 9, with the old angle's sine and cosine.
-- Assumes nothing.
use mathlib.Core.Path.{◌∙◌, ap, sym, subst}
use lib.IntN.{ℤ}
use Rattle.fixed.proofs.Equal.{ap₄}
use Rattle.fixed.proofs.Ranges.{in-lo, in-hi}
use Rattle.field.specs.Field.{angles}
use Rattle.fixed.proofs.Reading.{word}
use Rattle.sine.specs.Sine.{sine_at, cosine_at}
use Rattle.shaft.specs.Shaft.{Count}
use Rattle.stages.specs.Step.{rules_1_and_2, currents, rules_6_to_9, rules_3_to_9, advanced}
use Rattle.drive_record.proofs.Ranges.{sound→, sound←}
use Rattle.stages.proofs.Sizes as size
use Rattle.stages.proofs.Kept.{rules_1_and_2_sound, currents_size, sine_cosine_sized}
use Rattle.drive_record.proofs.DriveFromBits.{from_bits}
use Rattle.stages.proofs.advance.Goals as goal

pub returns : goal.returns
unfolding advanced rules_3_to_9
returns c =
    let b = from_bits c.args.d _ c.well_formed.0.1.1 in
    let sin = c.heading-h.ensures.sin_is ∙ ap sine_at b.field.angle in
    let cos = c.heading-h.ensures.cos_is ∙ ap cosine_at b.field.angle in
    c.rules_6_to_9.ensures
    ∙ ap₄ rules_6_to_9 (c.rules_1_and_2-n.ensures ∙ ap (rules_1_and_2 c.args.d) (word c.ranges.count).is)
    (c.currents.ensures ∙ ap₄ currents (word c.ranges.ia).is (word c.ranges.ib).is sin cos) sin cos

pub heading-h-requires : goal.heading-h-requires
heading-h-requires c =
    let a = c.args.d.field.angle in
    let h = (sound→ c.args.d c.requires.0).field.angle in
    rw (from_bits c.args.d _ c.well_formed.0.1.1).field.angle (record { lo = in-lo angles a h; hi = in-hi angles a h })

pub rules_1_and_2-n-requires : goal.rules_1_and_2-n-requires
rules_1_and_2-n-requires c =
    (c.requires.0, subst (λ (z : ℤ). Count z) (sym (word c.ranges.count).is) (size.samples→ c.args.ia c.args.ib c.args.count c.requires.1).3)

pub currents-requires : goal.currents-requires
currents-requires c = (
  rw ((word c.ranges.ia).is, (word c.ranges.ib).is) (size.samples c.args.ia c.args.ib c.args.count c.requires.1),
  rw (c.heading-h.ensures.sin_is, c.heading-h.ensures.cos_is) (sine_cosine_sized _),
)

pub rules_6_to_9-requires : goal.rules_6_to_9-requires
rules_6_to_9-requires c =
    let d = c.args.d in
    let a = d.field.angle in
    let b = from_bits d _ c.well_formed.0.1.1 in
    let taken = size.samples c.args.ia c.args.ib c.args.count c.requires.1 in
    let z = currents_size c.args.ia c.args.ib (sine_at a) (cosine_at a) taken (sine_cosine_sized a) in
    let sin = c.heading-h.ensures.sin_is ∙ ap sine_at b.field.angle in
    let cos = c.heading-h.ensures.cos_is ∙ ap cosine_at b.field.angle in
    let sound = rules_1_and_2_sound d c.args.count (sound→ d c.requires.0) (size.samples→ c.args.ia c.args.ib c.args.count c.requires.1).3 in (
      rw (
        c.rules_1_and_2-n.ensures ∙ ap (rules_1_and_2 d) (word c.ranges.count).is,
        c.currents.ensures ∙ ap₄ currents (word c.ranges.ia).is (word c.ranges.ib).is sin cos,
      ) (record { is_sound = sound← (rules_1_and_2 d c.args.count) sound; d_size = z.0; q_size = z.1 }),
      rw (sin, cos) (sine_cosine_sized a),
    )
