-- `pipes::feed_through` feeds what it reads and sends what that is answered: each turn a chunk more.
use Rattle.std.proofs.Common.{◌≡◌, length}
use Rattle.pipes.proofs.Turns.{Fed}
use Rattle.pipes.proofs.feed_through.Given as goal

abbrev pub invariant-loop-turns : goal.invariant-loop-turns
invariant-loop-turns g l = record {
  chunk : length l.bytes ≡ length l.initial.bytes;
  room : length l.out ≡ length l.initial.out;
  can : g.F.Feed.can_feed l.s;
  turns : Fed g.F.Feed.feeds g.F.Feed.over l.initial.s l.s (g.R.Read.remaining l.initial.from) (g.R.Read.remaining l.from)
      (g.W.Write.contents l.initial.to) (g.W.Write.contents l.to) l.turns;
}
