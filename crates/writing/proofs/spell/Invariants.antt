-- `writing::spell` meets its contract: the digits of what is left, in front of those that stand, are those of the number.
-- Assumes nothing.
use Rattle.std.proofs.Common.{◌≡◌, ◌++◌, drop}
use Rattle.writing.specs.Decimal.{last_digits, count_text}
use Rattle.writing.proofs.spell.Given as goal

abbrev pub invariant-loop-i : goal.invariant-loop-i
invariant-loop-i l = last_digits l.i l.rest ++ drop l.i l.out ≡ count_text l.n
