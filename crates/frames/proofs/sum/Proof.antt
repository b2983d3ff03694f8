-- `frames::sum` meets its contract: two products, one rounding.
-- Assumes nothing.
use borrow.Author.Rules.{rules}
use lib.IntN.{◌+ℤ◌, ◌*ℤ◌}
use mir.Syntax.{w32, w64}
use Rattle.fixed.proofs.Reading.{Reads, plus, lowered, stored, fits, m64}
use Rattle.frames.proofs.Products.{product}
use Rattle.frames.proofs.sum.Statement.{statement}
use Rattle.frames.proofs.sum.Tie as tie

-- what is rounded
whole : (c : tie.After-times-2) → Reads (m64 c.before.times.result +ℤ m64 c.times-2.result)
    (c.before.before.args.a *ℤ c.before.before.args.m +ℤ c.before.before.args.b *ℤ c.before.before.args.n) 134209536
whole c =
    let s = c.before.before in
    plus (product s.ranges.a s.ranges.m s.requires.a_size s.requires.m_size c.before.times.ensures)
    (product s.ranges.b s.ranges.n s.requires.b_size s.requires.n_size c.times-2.ensures)

returns : tie.Need-returns
returns c = (stored w32 (stored w64 (lowered 4096 tt c.down.ensures (stored w64 (whole c.before) tt)) tt) tt).is

add-down : tie.Need-overflow_add-times
add-down c = fits (whole c) tt

cast-result : tie.Need-overflow_cast-result
cast-result c = fits (stored w64 (lowered 4096 tt c.down.ensures (stored w64 (whole c.before) tt)) tt) tt

pub sum_spec : {M : Type 1} → statement M
sum_spec = tie.close (tie.spec (λ c κs. tt) (λ c κs. tt) add-down (λ c κs. search rules) cast-result returns)
