-- `pipes::send` sends a front, and what is left is less with each turn.
use Rattle.std.proofs.Common.{◌≡◌, List, ℕ, ◌++◌, length}
use Rattle.std.specs.Io.KnownBytes.{Appends}
use Rattle.pipes.proofs.send.Given as goal

abbrev pub invariant-loop-rest : goal.invariant-loop-rest
invariant-loop-rest g l = (front : List ℕ) × (l.initial.rest ≡ front ++ l.rest) × Appends (g.W.Write.contents l.initial.to) (g.W.Write.contents l.to) front

abbrev pub decreases-loop-rest : goal.decreases-loop-rest
decreases-loop-rest g l = length l.rest
