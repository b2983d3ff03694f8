-- `sine::cosine` meets its contract.
-- Assumes nothing.
use mathlib.Core.Path.{ap, sym, ◌∙◌}
use Prim.Native.Nat.{ℕ, ◌+◌, ◌%◌}
use mir.Syntax.{w16, w32}
use Rattle.fixed.proofs.Reading.{word, answer, stored}
use Rattle.sine.specs.Sine.{sine_entry, index_of}
use Rattle.sine.proofs.Rule.{cosine_entry}
use Rattle.sine.proofs.cosine.Goals as goal

pub returns : goal.returns
returns c =
    (stored w32 (answer w16 c.entry_ahead.type_inv) tt).is
    ∙ c.entry_ahead.ensures
    ∙ ap (λ (i : ℕ). sine_entry ((i + 64) % 256)) (c.index.ensures ∙ ap index_of (word c.ranges.angle).is)
    ∙ sym (cosine_entry c.args.angle c.requires)
