-- `stages::sample_ok` meets its contract: where the first two tests hold, the sum fits.
-- Assumes nothing.
use mathlib.Core.Path.{◌∙◌, ap₂, sym}
use mathlib.Core.Bool.{◌&&◌}
use lib.IntN.{pos}
use mir.Facts.{to_z-of_z}
use mir.Syntax.{w32}
use Rattle.fixed.proofs.HeldLaws.{and_left, and_right}
use Rattle.fixed.proofs.Reading.{sized, word, plus, stored}
use Rattle.fixed.specs.Fixed.{inside}
use Rattle.frames.specs.Frames.{sample_end}
use Rattle.stages.specs.Step.{sample_ok}
use Rattle.stages.proofs.Samples.{inside_is, inside_abs}
use Rattle.stages.proofs.sample_ok.Goals as goal

pub returns-then-within : goal.returns-then-within
unfolding sample_ok
returns-then-within c =
    let tests = ap₂ ◌&&◌ (inside_is sample_end c.within.ensures (word c.ranges.ia)) (inside_is sample_end c.within-2.ensures (word c.ranges.ib)) in
    let ok = sym tests ∙ c.if-within.true in
    let ia = sized c.ranges.ia (inside_abs sample_end c.args.ia (and_left _ _ ok)) in
    let ib = sized c.ranges.ib (inside_abs sample_end c.args.ib (and_right (inside (pos sample_end) c.args.ia) _ ok)) in
    let third = inside_is sample_end c.within-then-within.ensures (stored w32 (plus ia ib) tt) in
    simp (third, c.within-then-within-2.ensures, to_z-of_z c.ranges.count, ok)
