-- `writing::Page::put_number` meets its contract: the sign, if there is one, and then the digits.
-- Assumes nothing.
use mathlib.Core.Path.{◌≡◌, ap, ◌∙◌}
use native.Mathlib.Omega.{arith}
use lib.IntN.{pos, nat_abs}
use Rattle.fixed.proofs.Reading.{word, lit, is_less, not_less}
use Rattle.writing.specs.Page.{Put}
use Rattle.writing.proofs.DecimalLaws.{sign, sign_length, text_parts, sign_minus, sign_plain, short_length, text_length}
use Rattle.writing.proofs.PageLaws.{none, then}
use Rattle.writing.proofs.Page.put_number.Goals as goal
use Rattle.writing.proofs.Page.put_number.Goals.{then-v-lt0, else-v-lt0}

signed : (c : goal.After-from) → Put c.args.self.now c.if-v-lt0.self (sign c.args.v)
signed c = elim c.if-v-lt0.branch [
  | then-v-lt0 w ↦ rw (w.self-is, sign_minus c.args.v (is_less (word c.ranges.v) (lit (pos 0)) w.if-v-lt0.true)) w.put_byte.ensures
  | else-v-lt0 w ↦ rw (w.self-is, sign_plain c.args.v (not_less (word c.ranges.v) (lit (pos 0)) w.if-v-lt0.false)) (none _ (omega arith))
]

size_is : (c : goal.After-from) → c.from.result ≡ nat_abs c.args.v
size_is c = c.from.ensures ∙ c.unsigned_abs.ensures.value ∙ ap nat_abs (word c.ranges.v).is

pub put_digits-requires : goal.put_digits-requires
put_digits-requires c =
    omega (arith, c.requires, signed c, sign_length c.args.v, short_length c.from.result (omega (arith, c.from.ensures, c.unsigned_abs.ensures.bound)))

pub returns-clause-put : goal.returns-clause-put
returns-clause-put c = rw (text_parts c.args.v, ← size_is c.before) (then (signed c.before) c.put_digits.ensures)

pub returns-clause-bound : goal.returns-clause-bound
returns-clause-bound c = omega (arith, text_length c.args.v c.ranges.v, returns-clause-put c)
