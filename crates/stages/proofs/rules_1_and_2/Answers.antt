-- `stages::rules_1_and_2` meets its contract.
-- Assumes nothing.
use mathlib.Core.Path.{◌≡◌, refl, ◌∙◌, ap, ap₂, sym, subst}
use mathlib.Core.Bool.{true}
use lib.IntN.{ℤ, nat_abs}
use Prim.Native.Nat.{◌≤◌}
use Rattle.fixed.proofs.Reading.{word}
use Rattle.shaft.specs.declared.Shaft.{Shaft}
use Rattle.shaft.specs.Shaft.{counted, thirtieth, measured, Count, fastest}
use Rattle.drive_record.specs.declared.Drive.{Drive}
use Rattle.stages.specs.Step.{with_shaft, commanded, rules_1_and_2}
use Rattle.drive_record.proofs.Ranges.{sound→}
use Rattle.shaft.proofs.ShaftRanges.{sized, measured_size}
use Rattle.drive_record.proofs.DriveFromBits.{from_bits}
use Rattle.stages.proofs.rules_1_and_2.Goals as goal

if-thirtieth : (d : Drive) (count : ℤ) → thirtieth d.shaft ≡ true → rules_1_and_2 d count ≡ commanded d (measured (counted d.shaft count) d.settings.kn)
unfolding rules_1_and_2
if-thirtieth d count e = rw e refl

pub returns-then-thirtieth : goal.returns-then-thirtieth
returns-then-thirtieth c =
    let b = from_bits c.args.d _ c.well_formed.0.1.1 in
    let counted_is = c.counted-s.ensures ∙ ap (counted c.args.d.shaft) (word c.ranges.count).is in
    c.commanded.ensures
    ∙ ap (commanded c.args.d) (c.measured.ensures ∙ ap₂ measured counted_is b.settings.kn)
    ∙ sym (if-thirtieth c.args.d c.args.count (sym c.thirtieth.ensures ∙ c.if-thirtieth.true))

pub returns-else-thirtieth : goal.returns-else-thirtieth
unfolding rules_1_and_2 with_shaft
returns-else-thirtieth c =
    simp (c.counted-s.ensures ∙ ap (counted c.args.d.shaft) (word c.ranges.count).is, sym c.thirtieth.ensures ∙ c.if-thirtieth.false)

pub counted-s-requires : goal.counted-s-requires
counted-s-requires c =
    (sized c.args.d.shaft (sound→ c.args.d c.requires.0).shaft, subst (λ (z : ℤ). Count z) (sym (word c.ranges.count).is) c.requires.1)

pub commanded-requires : goal.commanded-requires
commanded-requires c = (c.requires.0, subst (λ (s : Shaft). nat_abs s.speed ≤ fastest) (sym c.measured.ensures) (measured_size _ _))
