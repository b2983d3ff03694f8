-- The numbers handed back (docs/RULES.md, "Numbers handed back"): each reason to refuse has one, and accepted is 0.
use Rattle.std.specs.Prelude.{ℕ, cond, eqb, ℤ, pos, negsuc, Option, None, Some, Result, Ok, Err}
use Rattle.fixed.specs.declared.refusal.Refusal.{Refusal}
use Rattle.fixed.specs.declared.refusal.Refusal.TheVariants.{
  Period,
  Gains,
  Untied,
  Limits,
  Rest,
  Sample,
  Tripped,
  Target,
  Rows,
  NotTripped,
  Broken,
  NoSheet,
  NoRoom,
  NoRow,
}

abbrev pub number_of : Refusal → ℤ
number_of Period = pos 1
number_of Gains = pos 2
number_of Untied = pos 3
number_of Limits = pos 4
number_of Rest = pos 5
number_of Sample = pos 6
number_of Tripped = pos 7
number_of Target = pos 8
number_of Rows = pos 9
number_of NotTripped = pos 10
number_of Broken = pos 14
number_of NoSheet = pos 17
number_of NoRoom = pos 18
number_of NoRow = pos 19

-- of an answer that may refuse: 0 where it does not
abbrev pub code_of : Option Refusal → ℤ
code_of None = pos 0
code_of (Some r) = number_of r

-- the reason that has a number. (Of a number that none has it is the last; no table has one, since fixed/specs/Ladder `Numbered` asks each rung's
-- answer for the rung's number.)
abbrev pub reason_at : ℕ → Refusal
reason_at n =
    cond (eqb n 1) Period
    (cond (eqb n 2) Gains
    (cond (eqb n 3) Untied
    (cond (eqb n 4) Limits
    (cond (eqb n 5) Rest
    (cond (eqb n 6) Sample
    (cond (eqb n 7) Tripped
    (cond (eqb n 8) Target
    (cond (eqb n 9) Rows
    (cond (eqb n 10) NotTripped
    (cond (eqb n 14) Broken
    (cond (eqb n 17) NoSheet
    (cond (eqb n 18) NoRoom NoRow))))))))))))

abbrev pub reason : ℤ → Refusal
reason (pos n) = reason_at n
reason (negsuc n) = NoRow

-- refused with a number: the answer is an error, the reason that has the number
abbrev pub refuse : {A : Type 0} → ℤ → Result A Refusal
refuse number = Err (reason number)

-- the number of an answer
abbrev pub number_in : {A : Type 0} → Result A Refusal → ℤ
number_in (Ok a) = pos 0
number_in (Err r) = number_of r
