-- `modulation::modulate` meets its contract: what the calls give, one after the other, is what the definition names.
-- Assumes nothing.
use borrow.Author.Rules.{rules}
use mathlib.Core.Path.{◌≡◌, ap, ap₂, ◌∙◌}
use lib.IntN.{ℤ}
use mir.Syntax.{w32}
use Rattle.fixed.proofs.Equal.{ap₃}
use Rattle.fixed.proofs.Reading.{Reads, m32, sized, result, stored, bound}
use Rattle.modulation.specs.declared.Entries.{Entries}
use Rattle.modulation.specs.declared.Sector.{Sector}
use Rattle.modulation.specs.Modulation.{entries_of, sector_number, sector_of, time_of, clipped_times, times_of, placed, modulated, longest, entry_end, Small}
use Rattle.modulation.proofs.Sizes.{Sized, entries_small, sector_sized, time_size}
use Rattle.modulation.proofs.Compares.{times_up, times_room}
use Rattle.modulation.proofs.modulate.Statement.{statement}
use Rattle.modulation.proofs.modulate.Tie as tie

period : (s : tie.Start) → Reads (m32 s.args.t) s.args.t longest
period s = sized s.ranges.t s.requires.0.size

-- ════ the entries
abbrev entries_at : tie.Start → Entries
entries_at s = entries_of s.args.va s.args.vb

small_at : (s : tie.Start) → Small (entries_at s)
small_at s = entries_small s.args.va s.args.vb s.requires.1 s.requires.2

entries_is : (c : tie.After-entries_of-e) → c.entries_of-e.result ≡ entries_at c.before
entries_is c =
    let s = c.before in
    c.entries_of-e.ensures ∙ ap₂ entries_of (sized s.ranges.va s.requires.1).is (sized s.ranges.vb s.requires.2).is

-- ════ the row
abbrev sector_for : tie.Start → Sector
sector_for s = sector_of (entries_at s)

sized_at : (s : tie.Start) → Sized (sector_for s)
unfolding sector_of
sized_at s = sector_sized (sector_number (entries_at s)) (entries_at s) (small_at s)

sector_is : (c : tie.After-sector_at-r) → c.sector_at-r.result ≡ sector_for c.before.before.before
unfolding sector_of
sector_is c = rw (← entries_is c.before.before, ← c.before.sector_number.ensures) c.sector_at-r.ensures

one : (c : tie.After-sector_at-r) → Reads (m32 c.sector_at-r.result.t1) (sector_for c.before.before.before).t1 entry_end
one c = stored w32 (result (ap (λ (r : Sector). r.t1) (sector_is c)) (sized_at c.before.before.before).one) tt

two : (c : tie.After-sector_at-r) → Reads (m32 c.sector_at-r.result.t2) (sector_for c.before.before.before).t2 entry_end
two c = stored w32 (result (ap (λ (r : Sector). r.t2) (sector_is c)) (sized_at c.before.before.before).two) tt

-- ════ the times: what `time` gave of the reading of an entry
timed : (s : tie.Start) {o u e : ℤ} → o ≡ time_of (m32 s.args.t) u → Reads u e entry_end → Reads (m32 o) (time_of s.args.t e) 100000
timed s {e = e} is r =
    stored w32 (result (is ∙ ap₂ time_of (period s).is r.is) (time_size s.args.t e s.requires.0.size r.size)) tt

time_one : (c : tie.After-time) →
    let s = c.before.before.before.before.before in Reads (m32 c.time.result) (time_of s.args.t (sector_for s).t1) 100000
time_one c = timed c.before.before.before.before.before c.time.ensures (one c.before.before)

time_two : (c : tie.After-time-2) →
    let s = c.before.before.before.before.before.before.before in Reads (m32 c.time-2.result) (time_of s.args.t (sector_for s).t2) 100000
time_two c = timed c.before.before.before.before.before.before.before c.time-2.ensures (two c.before.before.before.before)

times_is : (c : tie.After-clip-h) →
    let s = c.before.before.before.before.before.before.before.before in c.clip-h.result ≡ times_of s.args.t (sector_for s)
unfolding times_of
times_is c =
    let o = c.before.before.before in
    c.clip-h.ensures ∙ ap₃ clipped_times (period o.before.before.before.before.before).is (time_one o).is (time_two c.before).is

-- ════ the compares
returns : tie.Need-returns
unfolding modulated
returns c =
    let k = c.before in
    let r = k.before.before.before.before.before in
    c.place.ensures ∙ ap₃ placed (period r.before.before.before).is (sector_is r) (times_is k)

-- ════ what the calls require
small : (c : tie.After-entries_of-e) → Small c.entries_of-e.result
small c = rw (entries_is c) (small_at c.before)

time-requires : tie.Need-time-requires
time-requires c κs = (bound (period c.before.before.before.before) tt, bound (one c.before) tt)

time-requires-2 : tie.Need-time-requires-2
time-requires-2 c κs =
    (bound (period c.before.before.before.before.before.before) tt, bound (two c.before.before.before) tt)

clip-requires : tie.Need-clip-h-requires
clip-requires c κs =
    let s = c.before.before.before.before.before.before.before in
    let u = times_up s.args.t s.args.va s.args.vb s.requires.0.up in
    let one = time_one c.before.before in
    let two = time_two c in
    rw ((period s).is, one.is, two.is) (s.requires.0, record { up = u.0; size = one.size }, record { up = u.1; size = two.size })

place-requires : tie.Need-place-requires
place-requires c κs =
    let s = c.before.before.before.before.before.before.before.before in
    rw ((period s).is, times_is c) (s.requires.0, times_room s.args.t s.args.va s.args.vb s.requires.0.up)

pub modulate_spec : {M : Type 1} → statement M
modulate_spec =
    tie.close
    (tie.spec (λ c κs. search rules) (λ c κs. small c) (λ c κs. small c.before) time-requires time-requires-2 clip-requires place-requires returns)
