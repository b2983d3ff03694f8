-- `modulation::first_compare` meets its contract: what the times leave of the period, halved, is no larger than the period.
-- Assumes nothing.
use mathlib.Core.Path.{◌∙◌, ap, sym, subst}
use lib.IntN.{ℤ, pos}
use mir.Syntax.{w32, w64}
use Rattle.fixed.specs.Fixed.{down}
use Rattle.fixed.proofs.Reading.{Reads, m64, sized, local, minus, lowered, stored, fits}
use Rattle.modulation.specs.declared.Turn.TheVariants.{First}
use Rattle.modulation.specs.Modulation.{compare_at, InPeriod}
use Rattle.modulation.proofs.Sizes.{room_size}
use Rattle.modulation.proofs.Compares.{compare_within}
use Rattle.modulation.proofs.first_compare.Goals as goal

first : (c : goal.After-down) → Reads (m64 c.down.result) (compare_at First c.args.t c.args.h.t1 c.args.h.t2) 49151
unfolding compare_at
first c =
    let k = room_size c.args.t c.args.h c.requires.0.size c.requires.1 in
    let less_one = stored w32 (minus (sized c.ranges.t c.requires.0.size) (local w32 {x = c.args.h.t1} k.0 tt)) tt in
    let rest = stored w32 (minus less_one (local w32 {x = c.args.h.t2} k.1 tt)) tt in
    stored w64 (lowered 2 tt (c.down.ensures ∙ ap (λ (x : ℤ). down (m64 x) (pos 2)) c.from.ensures) (stored w64 rest tt)) tt

pub overflow_cast-result : goal.overflow_cast-result
overflow_cast-result c = fits (first c) tt

pub returns-clause-value : goal.returns-clause-value
returns-clause-value c = (stored w32 (first c) tt).is

pub returns-clause-within : goal.returns-clause-within
returns-clause-within c = subst (InPeriod c.args.t) (sym (stored w32 (first c) tt).is) (compare_within First c.args.t c.args.h c.requires.1)
