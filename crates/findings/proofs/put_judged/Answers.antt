-- `findings::put_judged` meets its contract.
-- Assumes nothing.
use mathlib.Core.Path.{ap, sym, ◌∙◌}
use Rattle.fixed.specs.Refusal.{number_of}
use Rattle.settings.proofs.Ranges.{checked_accepted, checked_refused, refusal_number}
use Rattle.findings.specs.Findings.{judged_text}
use Rattle.findings.proofs.put_judged.Goals as goal

pub returns-in-Ok-clause-put : goal.returns-in-Ok-clause-put
unfolding judged_text
returns-in-Ok-clause-put c =
    let h = checked_accepted c.args.s c.in-Ok.a (sym c.check.ensures ∙ c.in-Ok.is) in
    rw (h.0, h.1) c.put_accepted.ensures.put

pub returns-in-Err-clause-put : goal.returns-in-Err-clause-put
unfolding judged_text
returns-in-Err-clause-put c =
    let h = checked_refused c.args.s c.in-Err.why (sym c.check.ensures ∙ c.in-Err.is) in
    let n = ap number_of h.1 ∙ refusal_number c.args.s h.0 in
    rw (h.0, ← n) c.put_refused.ensures.put
