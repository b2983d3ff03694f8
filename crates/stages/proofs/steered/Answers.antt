-- `stages::steered` meets its contract.
-- Assumes nothing.
use mathlib.Core.Path.{refl, ◌∙◌}
use mir.Syntax.{w32}
use Rattle.fixed.proofs.Equal.{ap₄}
use Rattle.fixed.proofs.Reading.{word, sized, minus, stored}
use Rattle.regulator.specs.Regulator.{regulated}
use Rattle.stages.proofs.steered.Goals as goal

pub returns : goal.returns
returns c =
    let error = stored w32 (minus (sized c.ranges.wanted c.requires.0.wanted_size) (sized c.ranges.actual c.requires.0.actual_size)) tt in
    c.regulate.ensures ∙ ap₄ regulated (word c.ranges.x).is error.is refl (word c.ranges.limit).is
