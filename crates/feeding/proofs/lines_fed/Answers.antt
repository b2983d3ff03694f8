-- `feeding::lines_fed` meets its contract.
-- Assumes nothing.
use Rattle.std.proofs.Common.{◌≡◌, ◌<◌, true, false, refl, sym, length, rules, arith}
use Rattle.std.proofs.lemmas.Bool.Decides.{nat_tests}
use Rattle.feeding.specs.Feeding.{is_good}
use Rattle.feeding.proofs.Telling.{telling_start, line_room, told_within, telling_good, telling_else, telling_past, telling_stopped}
use Rattle.writing.proofs.PageLaws.{none}
use Rattle.feeding.proofs.lines_fed.Goals as goal
use Rattle.feeding.proofs.lines_fed.Goals.{else-f-via-then-f+else-not-f, else-f-via-else-f}

pub loop-rest-init : goal.loop-rest-init
loop-rest-init g c = let t = g.T.Told in telling_start t.fits t.after t.answers t.can_tell t.most c.args.s c.args.chunk.now c.args.page.now
    c.requires.0 c.requires.1

pub told-requires : goal.told-requires
told-requires g c =
    let t = g.T.Told in
    let u = c.loop-rest.invariant in
    let h : 0 < length c.loop-rest.rest.now = grind (arith, nat_tests) in (
      search rules,
      (
        u.can,
        told_within t.fits t.after t.answers t.can_tell t.most u h c.if-not-now.true c.line_fed-f.ensures.chunk_value (c.line_fed-f.ensures.shorter.1 h)
            c.if-f.true cc,
        line_room t.fits t.after t.answers t.can_tell t.most u h,
      ),
    )

-- the three ways through a turn: a good line, one that is none, and bytes that end none
pub loop-rest-preserved-in-Some : goal.loop-rest-preserved-in-Some
unfolding is_good
loop-rest-preserved-in-Some g c =
    let t = g.T.Told in
    let h : 0 < length c.loop-rest.rest.now = grind (arith, nat_tests) in
    let b : c.line_fed-f.result.line.bad ≡ false = cc in
    let put = c.in-Some.ensures.put in
    telling_good t.fits t.after t.answers t.can_tell t.most c.loop-rest.invariant h c.if-not-now.true
    c.line_fed-f.ensures.chunk_value (c.line_fed-f.ensures.shorter.1 h)
    (rw (c.if-f.true, b) (sym c.in-Some.ensures.good)) c.in-Some.ensures.next.0 c.in-Some.ensures.next.1 c.line_start-now.ensures
    put.1 put.3 c.told.ensures.bound

pub loop-rest-preserved-in_default : goal.loop-rest-preserved-in_default
unfolding is_good
loop-rest-preserved-in_default g c =
    let t = g.T.Told in
    let h : 0 < length c.loop-rest.rest.now = grind (arith, nat_tests) in
    let b : c.line_fed-f.result.line.bad ≡ false = cc in
    let put = c.in_default.ensures.put in
    telling_else t.fits t.after t.answers t.can_tell t.most c.loop-rest.invariant h c.if-not-now.true
    c.line_fed-f.ensures.chunk_value (c.line_fed-f.ensures.shorter.1 h)
    (rw (c.if-f.true, b) (sym c.in_default.ensures.good)) (rw put.2 at put.3) c.told.ensures.bound

pub loop-rest-preserved : goal.loop-rest-preserved
unfolding is_good
loop-rest-preserved g c =
    let t = g.T.Told in
    let u = c.loop-rest.invariant in
    let h : 0 < length c.loop-rest.rest.now = grind (arith, nat_tests) in
    telling_else t.fits t.after t.answers t.can_tell t.most u h c.if-not-now.true c.line_fed-f.ensures.chunk_value (c.line_fed-f.ensures.shorter.1 h)
    (elim c.else-f.branch [
      | else-f-via-then-f+else-not-f w ↦ let b : c.line_fed-f.result.line.bad ≡ true = cc in rw (w.if-f.true, b) refl
      | else-f-via-else-f w ↦ rw w.if-f.false refl
    ])
    (none c.loop-rest.page (omega (arith, u.wrote.room))) (omega arith)

-- the two ends: stopped, or past the last byte
pub returns-else-not-now : goal.returns-else-not-now
returns-else-not-now g c = let t = g.T.Told in telling_stopped t.fits t.after t.answers t.can_tell t.most c.loop-rest.invariant c.if-not-now.false

pub returns-after-loop-rest : goal.returns-after-loop-rest
returns-after-loop-rest g c = let t = g.T.Told in telling_past t.fits t.after t.answers t.can_tell t.most c.loop-rest.invariant (grind (arith, nat_tests))
