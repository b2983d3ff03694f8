-- `sheet::put_lines` meets its contract.
-- Assumes nothing.
use Rattle.std.proofs.Common.{arith, rules, ◌≡◌, length}
use lib.ListN.{get_or}
use lib.IntN.{pos}
use mir.Syntax.{w32}
use mir.Val.{to_z, of_z}
use Rattle.settings.specs.Words.{size as line_count}
use Rattle.writing.proofs.PageLaws.{none}
use Rattle.sheet.specs.Sheet.{lines_text}
use Rattle.sheet.proofs.Putting.{put_next, put_all}
use Rattle.sheet.proofs.put_lines.Goals as goal

pub loop-i-init : goal.loop-i-init
unfolding lines_text
loop-i-init c = (none c.args.page.now (omega (arith, c.requires)), omega arith)

pub loop-i-preserved : goal.loop-i-preserved
loop-i-preserved c =
    let z = get_or c.args.words c.loop-i.i (pos 0) in
    let r : to_z w32 (of_z w32 z) ≡ z = search rules in
    let n : length c.args.words ≡ line_count = search rules in
    let line = rw (c.from.ensures, c.unsigned_abs.ensures.value, r) at c.put_line.ensures.put in
    (put_next c.args.words c.loop-i.i n c.loop-i-test.true c.loop-i.invariant.0 line, omega (arith, c.loop-i.invariant.1, c.put_line.ensures.bound))

pub returns-clause-put : goal.returns-clause-put
returns-clause-put c = let n : length c.args.words ≡ line_count = search rules in put_all c.args.words c.loop-i.i n c.loop-i-test.false c.loop-i.invariant.0
