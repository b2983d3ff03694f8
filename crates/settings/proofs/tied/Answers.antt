-- `settings::tied` meets its contract.
-- Assumes nothing.
use mathlib.Core.Path.{ap₂, ◌∙◌}
use lib.IntN.{ℤ, pos}
use mir.Syntax.{w64}
use Rattle.fixed.specs.Fixed.{equal}
use Rattle.fixed.proofs.Reading.{word, lit, multiplied, fits}
use Rattle.settings.specs.Settings.{tied as is_tied}
use Rattle.settings.proofs.Ties.{same_words}
use Rattle.settings.proofs.tied.Goals as goal

pub returns : goal.returns
unfolding is_tied
returns c =
    let asked = multiplied c.times-asked.ensures (word c.ranges.kp) (word c.ranges.kcor) in
    let has = multiplied c.times-has.ensures (lit (pos 4096)) (word c.ranges.ki) in
    same_words w64 (fits asked tt) (fits has tt) ∙ ap₂ (λ (a b : ℤ). equal a b) asked.is has.is
