-- `probe::put_stepped` meets its contract.
-- Assumes nothing.
use Rattle.frames.proofs.StatorFromBits.{from_bits as of_stator}
use Rattle.stages.proofs.SteppedFromBits.{from_bits}
use Rattle.probe.proofs.CallWords.{told_flag}
use Rattle.probe.proofs.put_stepped.Goals as goal

pub returns-clause-put : goal.returns-clause-put
returns-clause-put c =
    let s = c.args.s in
    let b = from_bits s _ c.well_formed.1.0.1.1 in
    let v = of_stator s.voltage _ c.well_formed.1.0.1.1.1.1.1.0.1.1 in
    rw (b.number, b.a, b.b, b.c, told_flag s.pulses.clipped c.from.ensures, v.alpha, v.beta) at c.put_with_record.ensures.put
