-- `drive_record::integrals_ok` meets its contract.
-- Assumes nothing.
use Rattle.fixed.proofs.Reading.{fits, bound}
use Rattle.drive_record.specs.Record.{integrals_ok}
use Rattle.settings.proofs.SettingsFromBits.{from_bits, FromBits}
use Rattle.drive_record.proofs.IntegralsFromBits.{from_bits as told_integrals}
use Rattle.fixed.proofs.Asked.{field, wide}
use Rattle.drive_record.proofs.integrals_ok.Statement.{statement}
use Rattle.drive_record.proofs.integrals_ok.Tie as tie

back : (s : tie.Start) → FromBits s.args.s
back s = from_bits s.args.s _ s.well_formed.0.1.1

returns : tie.Need-returns
unfolding integrals_ok
returns c =
    let c2 = c.before.before.before.before in
    let c1 = c2.before.before.before.before in
    let s = c1.before.before.before.before in
    let b = told_integrals s.args.x _ s.well_formed.1.0.1.1 in
    simp (c1.inside.ensures, c2.inside-2.ensures, c.inside-3.ensures, b.speed, b.d, b.q, (wide (back s).q).is, (wide (back s).v).is)

pub integrals_ok_spec : {M : Type 1} → statement M
integrals_ok_spec =
    tie.close
    (tie.spec (λ c. fits (field (back c.before.before).q) tt) (λ c κs. bound (wide (back c.before.before.before).q) tt)
    (λ c. fits (field (back c.before.before.before.before.before.before).v) tt)
    (λ c κs. bound (wide (back c.before.before.before.before.before.before.before).v) tt)
    (λ c. fits (field (back c.before.before.before.before.before.before.before.before.before.before).v) tt)
    (λ c κs. bound (wide (back c.before.before.before.before.before.before.before.before.before.before.before).v) tt) returns)
