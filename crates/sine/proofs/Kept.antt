-- What the code keeps is what the checker computes from the ladder, entry by entry.
-- Assumes nothing.
use mathlib.Core.Path.{◌≡◌, refl}
use Rattle.fixed.specs.Fixed.{down}
use Rattle.sine.specs.declared.TheConstants.{QUARTER}
use Rattle.sine.specs.Sine.{kept_table, entries_from, sine_entry, half, rising, turned_by, turn, cos1, cos2, sin1, halved, root, root_from}

pub kept_is : QUARTER ≡ kept_table
unfolding kept_table entries_from sine_entry half rising turned_by turn cos1 cos2 sin1 halved root root_from down
kept_is = refl
