-- `stages::currents` meets its contract.
-- Assumes nothing.
use mathlib.Core.Path.{◌∙◌, ap₂}
use native.Mathlib.Nat.{le_trans}
use lib.Dec.{leb→le}
use Rattle.fixed.proofs.Reading.{sized}
use Rattle.frames.specs.Frames.{clarke}
use Rattle.frames.proofs.FrameLaws.{alpha_size, beta_size}
use Rattle.stages.proofs.currents.Goals as goal

pub park-requires : goal.park-requires
park-requires c =
    let h = c.requires.0 in
    rw (c.clarke.ensures ∙ ap₂ clarke (sized c.ranges.ia h.ia_size).is (sized c.ranges.ib h.ib_size).is) (record {
      a_size = le_trans (alpha_size c.args.ia c.args.ib h.ia_size) (leb→le _ _ tt);
      b_size = le_trans (beta_size c.args.ia c.args.ib h.ib_size h.both_size) (leb→le _ _ tt);
      m_size = c.requires.1.sin_size;
      n_size = c.requires.1.cos_size;
    })
