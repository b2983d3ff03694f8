-- What every use of the regulator keeps: output and integral within the limits, and so of their size.
-- Assumes nothing.
use lib.IntN.{ℤ, pos, neg_ℤ}
use lib.Signed.{◌≤ℤ◌}
use Rattle.fixed.proofs.HeldLaws.{within_lo, within_hi, within_yes}
use Rattle.fixed.proofs.Ranges.{Inside}
use Rattle.regulator.specs.declared.Gains.{Gains}
use Rattle.regulator.specs.Regulator.{regulated, out_of, next_of, Lawful}
use Rattle.regulator.proofs.Fact.{out_lo, out_hi, next_in}

module _ (x e : ℤ) (g : Gains) (limit : ℤ) (l : Lawful g) (h : pos 1 ≤ℤ limit) where
  pub out_inside : Inside limit (regulated x e g limit).out
  unfolding regulated
  out_inside = within_yes (neg_ℤ limit) limit (out_of x e g limit) (out_lo x e g limit l h) (out_hi x e g limit l h)

  pub next_inside : Inside limit x → Inside limit (regulated x e g limit).x
  unfolding regulated
  next_inside k =
      let n = next_in x e g limit l h (within_lo (neg_ℤ limit) limit x k) (within_hi (neg_ℤ limit) limit x k) in
      within_yes (neg_ℤ limit) limit (next_of x e g limit) n.0 n.1
