-- `Tally::told` meets its contract: a line is told as a row where it has three numbers.
-- Assumes nothing.
use Rattle.std.proofs.Common.{◌≡◌, [], refl, take, arith}
use borrow.Author.Tests.{ne_eqb}
use lib.Seq.{take_all}
use Rattle.drive_record.proofs.Ranges.{sound→, sound←}
use Rattle.rows.proofs.Runs.{row_sound}
use Rattle.writing.proofs.PageLaws.{none}
use Rattle.stream.specs.Program.{tally_of}
use Rattle.stream.proofs.Feeding.{row_test}
use Rattle.stream.proofs.TallyTold3.told.Goals as goal

pub returns-then-count-eq3 : goal.returns-then-count-eq3
unfolding tally_of
returns-then-count-eq3 c =
    let ns = c.args.numbers.now in
    let t = c.args.self in
    let all : take c.args.count ns ≡ ns = take_all c.args.count ns (omega (arith, c.if-count-eq3.true)) in
    record {
      good = rw (row_test ns c.args.count c.requires.1, c.if-count-eq3.true) refl;
      next = rw (all, c.row_told.ensures.tally) (refl, sound← _ (row_sound t.drive ns 0 (sound→ t.drive c.requires.0)));
      put = rw all (_, refl, tt, c.row_told.ensures.put);
      bound = c.row_told.ensures.bound;
    }

pub returns-else-count-eq3-clause-good : goal.returns-else-count-eq3-clause-good
returns-else-count-eq3-clause-good c = rw (row_test c.args.numbers.now c.args.count c.requires.1, ne_eqb c.args.count 3 c.if-count-eq3.false) refl

pub returns-else-count-eq3-clause-put : goal.returns-else-count-eq3-clause-put
returns-else-count-eq3-clause-put c = ([], tt, refl, none c.args.page.now (omega (arith, c.requires.2)))
