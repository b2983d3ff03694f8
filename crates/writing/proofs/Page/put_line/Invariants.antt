-- `writing::Page::put_line` meets its contract: the first number is put and so many more, and there is room for the line feed.
-- Assumes nothing.
use Rattle.std.proofs.Common.{◌+◌, ◌*◌, ◌≤◌, ◌++◌, take, pos, slice_index_or}
use Rattle.writing.specs.Page.{Put}
use Rattle.writing.specs.Decimal.{text_of, more_text}
use Rattle.writing.proofs.Page.put_line.Given as goal

abbrev pub invariant-loop-v : goal.invariant-loop-v
invariant-loop-v l = record {
  put : Put l.fn.self l.self (text_of (slice_index_or l.numbers 0 (pos 0)) ++ more_text (take l.v-index l.v-items));
  near : l.self.at + 1 ≤ l.fn.self.at + 12 * (l.v-index + 1);
}
