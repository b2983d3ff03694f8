-- `feeding::line_fed` meets its contract: the bytes that are left make of the line what all make of it at the start.
-- Assumes nothing.
use Rattle.std.proofs.Common.{◌≡◌, drop}
use Rattle.feeding.specs.Feeding.{part_of}
use Rattle.feeding.proofs.line_fed.Given as goal

abbrev pub invariant-loop-i : goal.invariant-loop-i
invariant-loop-i l =
    part_of (record { line = l.initial.line; numbers = l.initial.numbers }) l.chunk
    ≡ part_of (record { line = l.line; numbers = l.numbers }) (drop l.i l.chunk)
