-- `pipes::feed_through` meets its contract.
-- Assumes nothing.
use Rattle.pipes.specs.declared.Trouble.TheVariants.{Unread, Unsent}
use Rattle.std.proofs.Common.{◌≡◌, Ok, Err, refl, sym, ap, rules, arith}
use Rattle.pipes.proofs.Fronts.{page_sent, page_part, page_less}
use Rattle.pipes.proofs.Turns.{no_turn, turn_more, over_ends, input_ends, turns_end, unread, unsent}
use Rattle.pipes.proofs.feed_through.Goals as goal

pub loop-turns-init : goal.loop-turns-init
loop-turns-init g c = record { chunk = refl; room = refl; can = c.requires.0; turns = no_turn _ _ g.F.Feed.laws _ _ _ }

pub loop-turns-preserved : goal.loop-turns-preserved
loop-turns-preserved g c =
    let put = c.fed-s.ensures.put in
    record {
      chunk = omega arith;
      room = omega arith;
      can = c.fed-s.ensures.can;
      turns =
          turn_more _ _ g.F.Feed.laws _ _ _ c.loop-turns.invariant.turns _ _ (omega (arith, c.in_ok-size.ensures.size, c.if-size-eq0.false)) c.in_ok-size.ensures.read put.1
          (page_sent _ _ _ _ _ _ _ put.2 c.new-page.ensures.place c.place-place.ensures (search (rules, put.2.same)) c.in_ok-send.ensures.all)
          (sym c.if-is_over.ensures);
    }

pub returns-then-size-eq0-clause-through : goal.returns-then-size-eq0-clause-through
returns-then-size-eq0-clause-through g c = input_ends _ _ _ c.loop-turns.invariant.turns _ (rw c.if-size-eq0.true at c.in_ok-size.ensures.read)
    (c.in_ok-size.ensures.end (ap Ok c.if-size-eq0.true) (omega (arith, c.receive.auto.bytes, c.loop-turns.invariant.chunk, c.requires.1)))

pub returns-then-is_over-clause-through : goal.returns-then-is_over-clause-through
returns-then-is_over-clause-through g c =
    let put = c.fed-s.ensures.put in
    over_ends _ _ _ c.loop-turns.invariant.turns g.F.Feed.laws _ _ _ _ _
    (omega (arith, c.in_ok-size.ensures.size, c.receive.auto.bytes, c.loop-turns.invariant.chunk)) c.in_ok-size.ensures.read put.1
    (page_sent _ _ _ _ _ _ _ put.2 c.new-page.ensures.place c.place-place.ensures (search (rules, put.2.same)) c.in_ok-send.ensures.all)
    (sym c.if-is_over.ensures)

pub returns-clause-through : goal.returns-clause-through
returns-clause-through g c = turns_end _ _ _ c.loop-turns.invariant.turns (omega arith)

-- a read or a write failed
pub returns-in_err-size-clause-broken_off : goal.returns-in_err-size-clause-broken_off
returns-in_err-size-clause-broken_off g c =
    let e : c.from_residual.result ≡ Err Unread = search (rules, c.from_residual.ensures, c.in_err-size.ensures.none.0) in
    rw e (unread _ _ _ c.loop-turns.invariant.turns Unread refl _ c.in_err-size.ensures.none.1)

pub returns-in_err-send-clause-broken_off : goal.returns-in_err-send-clause-broken_off
returns-in_err-send-clause-broken_off g c =
    let put = c.fed-s.ensures.put in
    let e : c.from_residual-in_err-send.result ≡ Err Unsent = search (rules, c.from_residual-in_err-send.ensures, c.in_err-send.ensures.less.0) in
    rw e (unsent _ _ _ c.loop-turns.invariant.turns g.F.Feed.laws Unsent refl _ _ _ _ _
    (omega (arith, c.in_ok-size.ensures.size, c.receive.auto.bytes, c.loop-turns.invariant.chunk)) c.in_ok-size.ensures.read put.1
    (page_part _ _ _ _ _ _ _ put.2 c.new-page.ensures.place c.place-place.ensures (search (rules, put.2.same)) c.in_err-send.ensures.part)
    (page_less _ _ _ _ _ _ _ put.2 c.new-page.ensures.place c.place-place.ensures (search (rules, put.2.same)) c.in_err-send.ensures.less.1))
