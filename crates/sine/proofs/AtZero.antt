-- Sine and cosine of angle 0, as computed from the ladder; so a step from a fresh drive can be computed.
-- Assumes nothing.
use mathlib.Core.Path.{◌≡◌, refl, ◌∙◌}
use lib.Dec.{lit<}
use lib.IntN.{pos}
use Rattle.fixed.specs.Fixed.{down}
use Rattle.sine.specs.Sine.{root_from, root, halved, cos2, cos1, sin1, turn, turned_by}
use Rattle.sine.specs.Sine.{rising, half, sine_entry, index_of, sine_at, cosine_at}
use Rattle.sine.proofs.Rule.{entry_at}

entry_0 : sine_entry 0 ≡ pos 0
unfolding sine_entry half rising turned_by down
entry_0 = refl

entry_64 : sine_entry 64 ≡ pos 4096
unfolding sine_entry half rising turned_by turn cos1 sin1 cos2 halved root root_from down
entry_64 = refl

pub sine_at_0 : sine_at (pos 0) ≡ pos 0
unfolding sine_at index_of down
sine_at_0 = entry_at 0 (lit< tt) ∙ entry_0

pub cosine_at_0 : cosine_at (pos 0) ≡ pos 4096
unfolding cosine_at index_of down
cosine_at_0 = entry_at 64 (lit< tt) ∙ entry_64
