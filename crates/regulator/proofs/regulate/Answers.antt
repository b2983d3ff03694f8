-- `regulator::regulate` meets its contract. The readings go as the code does: u, out, out − u, what is rounded, and x'.
-- Assumes nothing.
use mathlib.Core.Path.{◌≡◌, ◌∙◌, ap, ap₂}
use lib.IntN.{ℤ, pos, neg_ℤ, ◌+ℤ◌, ◌-ℤ◌, ◌*ℤ◌}
use mir.Syntax.{w32, w64}
use Rattle.fixed.specs.Fixed.{down, held}
use Rattle.fixed.proofs.Equal.{ap₃}
use Rattle.fixed.proofs.HeldLaws.{held_abs}
use Rattle.fixed.proofs.Reading.{Reads, sized, local, result, plus, minus, times, multiplied, lowered, stored, fits, m64}
use Rattle.regulator.specs.declared.Gains.{Gains}
use Rattle.regulator.specs.Regulator.{sum_of, out_of, next_of, regulated, widest, error_end}
use Rattle.regulator.proofs.regulate.Goals as goal

-- e·Kp/4096 down
risen : {r a b e kp : ℤ} → r ≡ down (a *ℤ b) (pos 4096) → Reads a e error_end → Reads b kp 32767 → Reads (m64 r) (down (e *ℤ kp) (pos 4096)) 262129
risen is p q = stored w64 (lowered 4096 tt is (times p q)) tt

pub overflow_cast-rise : goal.overflow_cast-rise
overflow_cast-rise c =
    fits (risen c.scaled-rise.ensures (sized c.ranges.e c.requires.e_size) (local w32 {x = c.args.g.kp} c.requires.kp_size tt)) tt

-- u
u : (c : goal.After-from-3) → Reads (m64 c.from-at.result +ℤ m64 c.from.result) (sum_of c.args.x c.args.e c.args.g) 270320
unfolding sum_of
u c =
    let kp = local w32 {x = c.args.g.kp} c.requires.kp_size tt in
    let r = stored w32 (risen c.scaled-rise.ensures (sized c.ranges.e c.requires.e_size) kp) tt in
    plus (stored w64 (result (c.from-at.ensures ∙ (sized c.ranges.x c.requires.x_size).is) c.requires.x_size) tt)
    (stored w64 (result (c.from.ensures ∙ r.is) r.size) tt)

out : (c : goal.After-from-3) → Reads c.hold_to-out.result (out_of c.args.x c.args.e c.args.g c.args.limit) widest
unfolding out_of
out c =
    let l = sized c.ranges.limit c.requires.limit_size in
    result (c.hold_to-out.ensures ∙ ap₃ held (stored w64 (u c) tt).is (ap neg_ℤ l.is) l.is)
    (held_abs _ c.args.limit widest c.requires.limit_size c.requires.limits)

-- out − u
abbrev left : ℤ → ℤ → Gains → ℤ → ℤ
left x e g limit = out_of x e g limit -ℤ sum_of x e g

over : (c : goal.After-from-3)
    → Reads (m64 c.from-2.result -ℤ m64 (m64 c.from-at.result +ℤ m64 c.from.result)) (left c.args.x c.args.e c.args.g c.args.limit) 278511
over c =
    let o = stored w32 (out c) tt in
    minus (stored w64 (result (c.from-2.ensures ∙ o.is) o.size) tt) (stored w64 (u c) tt)

taken : (c : goal.After-from-3)
    → Reads (m64 (m64 c.from-2.result -ℤ m64 (m64 c.from-at.result +ℤ m64 c.from.result)) *ℤ m64 c.from-3.result)
    (left c.args.x c.args.e c.args.g c.args.limit *ℤ c.args.g.kcor) 1140781056
taken c =
    let kcor = local w32 {x = c.args.g.kcor} c.requires.kcor_size tt in
    times (stored w64 (over c) tt) (stored w64 (result (c.from-3.ensures ∙ kcor.is) c.requires.kcor_size) tt)

pub overflow_mul-over : goal.overflow_mul-over
overflow_mul-over c = fits (taken c) tt

-- what is rounded for x'
rounded : (c : goal.After-from-3)
    → Reads (m64 c.times.result +ℤ m64 (m64 (m64 c.from-2.result -ℤ m64 (m64 c.from-at.result +ℤ m64 c.from.result)) *ℤ m64 c.from-3.result))
    (c.args.e *ℤ c.args.g.ki +ℤ left c.args.x c.args.e c.args.g c.args.limit *ℤ c.args.g.kcor) 2214457345
rounded c =
    let ki = local w32 {x = c.args.g.ki} c.requires.ki_size tt in
    plus (stored w64 (multiplied c.times.ensures (sized c.ranges.e c.requires.e_size) ki) tt) (stored w64 (taken c) tt)

pub overflow_add-times : goal.overflow_add-times
overflow_add-times c = fits (rounded c) tt

next : (c : goal.After-down-change) → Reads (m64 c.from-at.result +ℤ m64 c.down-change.result) (next_of c.args.x c.args.e c.args.g c.args.limit) 548831
unfolding next_of
next c =
    plus (stored w64 (result (c.from-at.ensures ∙ (sized c.ranges.x c.requires.x_size).is) c.requires.x_size) tt)
    (stored w64 (lowered 4096 tt c.down-change.ensures (stored w64 (rounded c.before) tt)) tt)

pub overflow_add-result : goal.overflow_add-result
overflow_add-result c = fits (next c) tt

pub overflow_cast-result : goal.overflow_cast-result
overflow_cast-result c = fits (stored w64 (next c) tt) tt

pub returns : goal.returns
unfolding regulated
returns c = ap₂ (λ (o n : ℤ). record { out = o; x = n }) (stored w32 (out c.before) tt).is (stored w32 (stored w64 (next c) tt) tt).is
