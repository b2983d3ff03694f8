-- `writing::Page::put_line` meets its contract.
-- Assumes nothing.
use Rattle.std.proofs.Common.{rules, ◌-◌, length, take, drop, slice_index_or, pos, w32, arith}
use mathlib.Core.List.{append-nil, append_assoc}
use mir.Val.{SFits}
use Rattle.fixed.proofs.Reading.{read32}
use Rattle.writing.specs.Decimal.{more_text}
use Rattle.writing.proofs.LineLaws.{more_next, line_is}
use Rattle.writing.proofs.PageLaws.{then}
use Rattle.writing.proofs.Page.put_line.Goals as goal

first : (c : goal.After-vitems-1) → SFits w32 (slice_index_or c.args.numbers.now 0 (pos 0))
first c = search rules

each : (c : goal.After-put_number-in-loop-v) → SFits w32
    (slice_index_or (take (length c.args.numbers.now - 1) (drop 1 c.args.numbers.now)) c.loop-v.v-index (pos 0))
each c = search rules

pub loop-v-init : goal.loop-v-init
unfolding more_text
loop-v-init c = record { put = rw append-nil (rw (read32 _ (first c)) at c.put_number.ensures.put); near = omega arith }

pub loop-v-preserved : goal.loop-v-preserved
loop-v-preserved c = record {
  put =
      rw (more_next _ c.loop-v.v-index c.loop-v-test.true, ← append_assoc)
      (then c.loop-v.invariant.put (then c.put_byte.ensures (rw (read32 _ (each c)) at c.put_number-in-loop-v.ensures.put)));
  near = omega arith;
}

pub returns-clause-put : goal.returns-clause-put
returns-clause-put c =
    rw (line_is c.args.numbers.now c.loop-v.v-index c.requires.0 c.loop-v-test.false) (then c.loop-v.invariant.put c.put_byte-2.ensures)
