-- `read_sheet::read_through` gathers what it reads: each turn one read more.
-- Assumes nothing.
use Rattle.std.proofs.Common.{rules}
use Rattle.read_sheet.proofs.Gathers.{read_more}
use Rattle.read_sheet.proofs.read_through.Goals as goal

pub loop-size-preserved : goal.loop-size-preserved
loop-size-preserved g c = record {
  room = search rules;
  fits = search rules;
  read = read_more _ _ _ _ _ _ _ _ c.loop-size.invariant.fits c.in_ok-more.ensures.size.0 c.loop-size.invariant.read c.in_ok-more.ensures.read;
}
