-- `sheet::write` meets its contract.
-- Assumes nothing.
use Rattle.std.proofs.Common.{◌∙◌, ◌≡◌, sym, ap, Err, take, arith, rules}
use Rattle.std.proofs.lemmas.Result.{err_from_is_err_and}
use Rattle.settings.specs.Words.{words_of}
use Rattle.settings.proofs.Ranges.{checked_accepted, checked_refused}
use Rattle.sheet.specs.declared.Unwritten.TheVariants.{Barred}
use Rattle.sheet.proofs.CodeLaws.{by_map_err, by_ok, by_err}
use Rattle.sheet.proofs.Putting.{made, barred, too_short, in-full}
use Rattle.sheet.proofs.write.Goals as goal

pub returns-in_err-s : goal.returns-in_err-s
returns-in_err-s c =
    let h = by_map_err Barred c.check.result c.map_err.result c.map_err.ensures.cases in
    let r = by_err Barred c.check.result (sym h ∙ c.in_err-s.was) in
    let a = checked_refused c.args.s r.0 (sym c.check.ensures ∙ r.1) in
    let p = err_from_is_err_and c.from_residual.result c.from_residual.ensures.1 in
    let b = barred c.args.s c.args.out.now a.0 in
    (p.1 ∙ ap Err (p.2 ∙ r.2 ∙ ap Barred a.1) ∙ b.0, b.1)

pub returns-then-out-place : goal.returns-then-out-place
returns-then-out-place c =
    let h = by_map_err Barred c.check.result c.map_err.result c.map_err.ensures.cases in
    let a = checked_accepted c.args.s c.in_ok-s.s (sym c.check.ensures ∙ by_ok Barred c.check.result (sym h ∙ c.in_ok-s.was)) in
    let m = made c.args.s c.new-page.ensures.place c.put_lines.ensures.put (c.words_of.ensures ∙ ap words_of (sym a.1)) in
    too_short c.args.s c.args.out.now a.0 (omega (arith, m.0, c.place-place.ensures, c.if-out-place.true))

pub returns : goal.returns
returns c =
    let h = by_map_err Barred c.check.result c.map_err.result c.map_err.ensures.cases in
    let a = checked_accepted c.args.s c.in_ok-s.s (sym c.check.ensures ∙ by_ok Barred c.check.result (sym h ∙ c.in_ok-s.was)) in
    let m = made c.args.s c.new-page.ensures.place c.put_lines.ensures.put (c.words_of.ensures ∙ ap words_of (sym a.1)) in
    let t : c.copy_from_slice.new.self ≡ take c.put_lines.new.page.at c.put_lines.new.page.out.now = search rules in
    in-full c.args.s c.args.out.now a.0 c.if-out-place.false (c.place-place.ensures ∙ m.0) (t ∙ m.1)
