-- `probe::call_in` meets its contract: it goes by the bits of the first number.
-- Assumes nothing.
use Rattle.std.proofs.Common.{◌≡◌, get_or, pos, to_z, of_z, w32, ap, refl, rules, arith}
use Rattle.std.proofs.lemmas.Bool.Decides.{nat_tests}
use mir.Val.{SFits}
use Rattle.probe.specs.declared.Call.TheVariants.{Make, Clear}
use Rattle.probe.proofs.CallLaws.{by_bits}
use Rattle.probe.proofs.CallWords.{by_its_bits, is_make, is_step, is_target, is_clear}
use Rattle.probe.proofs.call_in.Goals as goal

pub returns-in-0-clause-good : goal.returns-in-0-clause-good
returns-in-0-clause-good c =
    let n = c.args.n.now in
    let h : SFits w32 (get_or n 0 (pos 0)) = search rules in
    let w : of_z w32 (get_or n 0 (pos 0)) ≡ 0 = search rules in
    rw (by_bits n c.args.count h, w, c.if-count-eq-RECORD.true) refl

pub returns-in_ok-drive_in-in-1-clause-good : goal.returns-in_ok-drive_in-in-1-clause-good
returns-in_ok-drive_in-in-1-clause-good c =
    let n = c.args.n.now in
    let h : SFits w32 (get_or n 0 (pos 0)) = search rules in
    let w : of_z w32 (get_or n 0 (pos 0)) ≡ 1 = search rules in
    rw (by_bits n c.args.count h, w, c.if-count-eq-ALL.true, ← c.in_ok-drive_in-in-1.ensures.good) refl

pub returns-in_err-drive_in-in-1-clause-good : goal.returns-in_err-drive_in-in-1-clause-good
returns-in_err-drive_in-in-1-clause-good c =
    let n = c.args.n.now in
    let h : SFits w32 (get_or n 0 (pos 0)) = search rules in
    let w : of_z w32 (get_or n 0 (pos 0)) ≡ 1 = search rules in
    rw (by_bits n c.args.count h, w, c.if-count-eq-ALL.true, c.from_residual.ensures, ← c.in_err-drive_in-in-1.ensures.good) refl

pub returns-in_ok-drive_in-in-2-clause-good : goal.returns-in_ok-drive_in-in-2-clause-good
returns-in_ok-drive_in-in-2-clause-good c =
    let n = c.args.n.now in
    let h : SFits w32 (get_or n 0 (pos 0)) = search rules in
    let w : of_z w32 (get_or n 0 (pos 0)) ≡ 2 = search rules in
    rw (by_bits n c.args.count h, w, c.if-count-eq-WITH_TARGET.true, ← c.in_ok-drive_in-in-2.ensures.good) refl

pub returns-in_err-drive_in-in-2-clause-good : goal.returns-in_err-drive_in-in-2-clause-good
returns-in_err-drive_in-in-2-clause-good c =
    let n = c.args.n.now in
    let h : SFits w32 (get_or n 0 (pos 0)) = search rules in
    let w : of_z w32 (get_or n 0 (pos 0)) ≡ 2 = search rules in
    rw (by_bits n c.args.count h, w, c.if-count-eq-WITH_TARGET.true, c.from_residual-in_err-drive_in-in-2.ensures, ← c.in_err-drive_in-in-2.ensures.good) refl

pub returns-in_ok-drive_in-in-3-clause-good : goal.returns-in_ok-drive_in-in-3-clause-good
returns-in_ok-drive_in-in-3-clause-good c =
    let n = c.args.n.now in
    let h : SFits w32 (get_or n 0 (pos 0)) = search rules in
    let w : of_z w32 (get_or n 0 (pos 0)) ≡ 3 = search rules in
    rw (by_bits n c.args.count h, w, c.if-count-eq-OWN.true, ← c.in_ok-drive_in-in-3.ensures.good) refl

pub returns-in_err-drive_in-in-3-clause-good : goal.returns-in_err-drive_in-in-3-clause-good
returns-in_err-drive_in-in-3-clause-good c =
    let n = c.args.n.now in
    let h : SFits w32 (get_or n 0 (pos 0)) = search rules in
    let w : of_z w32 (get_or n 0 (pos 0)) ≡ 3 = search rules in
    rw (by_bits n c.args.count h, w, c.if-count-eq-OWN.true, c.from_residual-in_err-drive_in-in-3.ensures, ← c.in_err-drive_in-in-3.ensures.good) refl

-- the first number is none of these, or not so many numbers stand there
pub returns-in_default : goal.returns-in_default
returns-in_default c =
    let n = c.args.n.now in
    let h : SFits w32 (get_or n 0 (pos 0)) = search rules in
    let w : of_z w32 (get_or n 0 (pos 0)) ≡ 0 = search rules in
    rw (by_bits n c.args.count h, w) (grind (arith, nat_tests))

pub returns-in_default-2 : goal.returns-in_default-2
returns-in_default-2 c =
    let n = c.args.n.now in
    let h : SFits w32 (get_or n 0 (pos 0)) = search rules in
    let w : of_z w32 (get_or n 0 (pos 0)) ≡ 1 = search rules in
    rw (by_bits n c.args.count h, w) (grind (arith, nat_tests))

pub returns-in_default-3 : goal.returns-in_default-3
returns-in_default-3 c =
    let n = c.args.n.now in
    let h : SFits w32 (get_or n 0 (pos 0)) = search rules in
    let w : of_z w32 (get_or n 0 (pos 0)) ≡ 2 = search rules in
    rw (by_bits n c.args.count h, w) (grind (arith, nat_tests))

pub returns-in_default-4 : goal.returns-in_default-4
returns-in_default-4 c =
    let n = c.args.n.now in
    let h : SFits w32 (get_or n 0 (pos 0)) = search rules in
    let w : of_z w32 (get_or n 0 (pos 0)) ≡ 3 = search rules in
    rw (by_bits n c.args.count h, w) (grind (arith, nat_tests))

pub returns-in_default-5 : goal.returns-in_default-5
returns-in_default-5 c =
    let n = c.args.n.now in
    let h : SFits w32 (get_or n 0 (pos 0)) = search rules in
    let w0 : of_z w32 (get_or n 0 (pos 0)) ≡ 0 → ⊥ = search rules in
    let w1 : of_z w32 (get_or n 0 (pos 0)) ≡ 1 → ⊥ = search rules in
    let w2 : of_z w32 (get_or n 0 (pos 0)) ≡ 2 → ⊥ = search rules in
    let w3 : of_z w32 (get_or n 0 (pos 0)) ≡ 3 → ⊥ = search rules in
    rw (by_bits n c.args.count h) (grind (arith, nat_tests))

-- which call it is
pub returns-in-0-clause-value : goal.returns-in-0-clause-value
returns-in-0-clause-value c =
    let n = c.args.n.now in
    let h : SFits w32 (get_or n 0 (pos 0)) = search rules in
    let w : of_z w32 (get_or n 0 (pos 0)) ≡ 0 = search rules in
    rw (is_make n (by_its_bits 0 h w)) (ap Make c.settings_in.ensures)

pub returns-in_ok-drive_in-in-1-clause-value : goal.returns-in_ok-drive_in-in-1-clause-value
returns-in_ok-drive_in-in-1-clause-value c =
    let n = c.args.n.now in
    let h : SFits w32 (get_or n 0 (pos 0)) = search rules in
    let w : of_z w32 (get_or n 0 (pos 0)) ≡ 1 = search rules in
    let d = c.in_ok-drive_in-in-1.ensures.value in
    let ia : to_z w32 (of_z w32 (get_or n 31 (pos 0))) ≡ get_or n 31 (pos 0) = search rules in
    let ib : to_z w32 (of_z w32 (get_or n 32 (pos 0))) ≡ get_or n 32 (pos 0) = search rules in
    let count : to_z w32 (of_z w32 (get_or n 33 (pos 0))) ≡ get_or n 33 (pos 0) = search rules in
    rw (is_step n (by_its_bits 1 h w), d, ia, ib, count) refl

pub returns-in_ok-drive_in-in-2-clause-value : goal.returns-in_ok-drive_in-in-2-clause-value
returns-in_ok-drive_in-in-2-clause-value c =
    let n = c.args.n.now in
    let h : SFits w32 (get_or n 0 (pos 0)) = search rules in
    let w : of_z w32 (get_or n 0 (pos 0)) ≡ 2 = search rules in
    let d = c.in_ok-drive_in-in-2.ensures.value in
    let wanted : to_z w32 (of_z w32 (get_or n 31 (pos 0))) ≡ get_or n 31 (pos 0) = search rules in
    rw (is_target n (by_its_bits 2 h w), d, wanted) refl

pub returns-in_ok-drive_in-in-3-clause-value : goal.returns-in_ok-drive_in-in-3-clause-value
returns-in_ok-drive_in-in-3-clause-value c =
    let n = c.args.n.now in
    let h : SFits w32 (get_or n 0 (pos 0)) = search rules in
    let w : of_z w32 (get_or n 0 (pos 0)) ≡ 3 = search rules in
    let d = c.in_ok-drive_in-in-3.ensures.value in
    rw (is_clear n (by_its_bits 3 h w)) (ap Clear d)
