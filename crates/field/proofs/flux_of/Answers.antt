-- `field::flux_of` meets its contract: the quotient fits.
-- Assumes nothing.
use borrow.Author.Rules.{rules}
use Prim.Native.Nat.{◌+◌, ◌/◌, ◌^◌}
use mir.Syntax.{w32, w64}
use Rattle.fixed.proofs.Reading.{Reads, word, result, stored, fits}
use Rattle.fixed.proofs.DownLaws.{down_size}
use Rattle.field.specs.Field.{flux_of}
use Rattle.field.proofs.flux_of.Goals as goal

flux : (c : goal.After-down) → Reads c.down.result (flux_of c.args.fine) (2 ^ 31 / 4096 + 1)
unfolding flux_of
flux c = result (search rules) (down_size c.args.fine 4096 (2 ^ 31) tt (word c.ranges.fine).size)

pub returns : goal.returns
returns c = (stored w32 (stored w64 (flux c) tt) tt).is

pub overflow_cast-result : goal.overflow_cast-result
overflow_cast-result c = fits (stored w64 (flux c) tt) tt
