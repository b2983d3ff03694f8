-- `sine::sine` meets its contract.
-- Assumes nothing.
use mathlib.Core.Path.{◌≡◌, ap, sym, ◌∙◌}
use Prim.Native.Nat.{◌%◌}
use native.Mathlib.Omega.{arith}
use mir.Syntax.{w16, w32}
use Rattle.fixed.proofs.Reading.{word, answer, stored}
use Rattle.sine.specs.Sine.{sine_entry, index_of}
use Rattle.sine.proofs.Rule.{sine_entry_lem, index_below}
use Rattle.sine.proofs.sine.Goals as goal

pub returns : goal.returns
returns c =
    let a = c.args.angle in
    let e : c.index.result % 256 ≡ index_of a = omega (arith, c.index.ensures ∙ ap index_of (word c.ranges.angle).is, index_below a c.requires) in
    (stored w32 (answer w16 c.entry.type_inv) tt).is ∙ c.entry.ensures ∙ ap sine_entry e ∙ sym (sine_entry_lem a c.requires)
