-- `sheet::read` meets its contract.
-- Assumes nothing.
use Rattle.std.proofs.Common.{◌∙◌, sym, ap, Err}
use Rattle.std.proofs.lemmas.Result.{err_from_is_err_and}
use Rattle.sheet.specs.declared.Unread.TheVariants.{Refused, Faulty}
use Rattle.sheet.specs.Sheet.{read_sheet, outcome}
use Rattle.sheet.proofs.CodeLaws.{by_error, by_map_err, by_ok, by_err, judged_is}
use Rattle.sheet.proofs.read.Goals as goal

pub returns-in_err-s : goal.returns-in_err-s
unfolding read_sheet outcome
returns-in_err-s c =
    let h = by_map_err Faulty c.lines.result c.map_err.result c.map_err.ensures.cases in
    let i = by_err Faulty c.lines.result (sym h ∙ c.in_err-s.was) in
    let p = err_from_is_err_and c.from_residual.result c.from_residual.ensures.1 in
    p.1 ∙ ap Err (p.2 ∙ i.2) ∙ ap outcome (sym i.1 ∙ c.lines.ensures)

pub returns : goal.returns
unfolding read_sheet outcome
returns c =
    let h = by_map_err Faulty c.lines.result c.map_err.result c.map_err.ensures.cases in
    let s = by_ok Faulty c.lines.result (sym h ∙ c.in_ok-s.was) in
    let k = by_map_err Refused c.check.result c.map_err-2.result c.map_err-2.ensures.cases in
    k ∙ ap (by_error Refused) c.check.ensures ∙ judged_is c.in_ok-s.s ∙ ap outcome (sym s ∙ c.lines.ensures)
