-- `modulation::entries_of` meets its contract.
-- Assumes nothing.
use lib.IntN.{pos}
use mir.Syntax.{w32}
use Rattle.fixed.proofs.Reading.{sized, lit, plus, minus, times, stored}
use Rattle.modulation.specs.Modulation.{entries_of}
use Rattle.modulation.proofs.entries_of.Goals as goal

pub returns : goal.returns
unfolding entries_of
returns c =
    let a = stored w32 (times (lit (pos 3547)) (sized c.ranges.va c.requires.0)) tt in
    let b = stored w32 (times (lit (pos 2048)) (sized c.ranges.vb c.requires.1)) tt in
    simp ((stored w32 (times (lit (pos 2)) b) tt).is, (stored w32 (plus a b) tt).is, (stored w32 (minus b a) tt).is)
