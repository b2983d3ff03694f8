-- `found_at` meets its contract: the row that was looked for stands where the code reads it.
-- Assumes nothing.
use Rattle.std.proofs.Common.{rules, ◌≡◌}
use Rattle.std.specs.Option.{option_map}
use Rattle.ring.specs.Ring.{row_place}
use Rattle.moments.specs.Moments.{row_in}
use Rattle.moments.specs.Recordings.{Rings}
use Rattle.moments.proofs.Rows.{moment_stands}
use Rattle.moments.proofs.found_at.Goals as goal

pub returns : goal.returns
returns c =
    let m = c.args.m.now in
    let rings : Rings m = record { ia = search rules; ib = search rules; speed = search rules; a = search rules; b = search rules; c = search rules } in
    let place : c.row_place.result ≡ row_place m.next m.real c.args.i = search rules in
    let row : c.map.result ≡ option_map (row_in m) c.row_place.result = search rules in
    cc (moment_stands m rings c.args.i)
