-- What stands of a chunk while its lines are told, one after the other.
-- Assumes nothing.
use mathlib.Core.Path.{◌≡◌, refl, subst}
use mathlib.Core.Bool.{Bool, true, false, ◌&&◌}
use mathlib.Core.List.{List, []}
use Prim.Native.Nat.{ℕ, ◌+◌, ◌*◌, ◌≤◌, ◌<◌}
use native.Mathlib.Nat.{mul-le-mul_left}
use native.Mathlib.Omega.{arith}
use lib.IntN.{ℤ}
use lib.ListN.{length, take}
use Rattle.text.specs.declared.Line.{Line}
use Rattle.text.specs.Automaton.{line_start}
use Rattle.writing.specs.declared.Page.{Page}
use Rattle.writing.specs.Page.{Put, Room}
use Rattle.feeding.specs.declared.Feeder.{Feeder}
use Rattle.feeding.specs.Feeding.{part_of, Fed, line_due, is_good, fed_of, Said}
use Rattle.feeding.specs.Feeds.{as_fed}
use Rattle.feeding.proofs.Upto.{Upto, upto_start, upto_good, upto_else, upto_past, upto_stopped}
use Rattle.feeding.proofs.Upto.{Wrote, wrote_start, wrote_good, wrote_else, wrote_past, wrote_stopped, count_within}

module _ {T : Type 0} {n : ℕ} (fits : List ℤ → Bool) (after : T → List ℤ → T) (A : T → List ℤ → List ℕ → Type 0) (Can : T → Type 0) (m : ℕ) where
  -- while rest is left of the chunk
  pub record Telling (s : Feeder T n) (chunk : List ℕ) (first page : Page) (cur : Feeder T n) (rest : List ℕ) : Type 0 where
    pub can : Can cur.kept
    pub upto : Upto fits after (as_fed s) chunk (as_fed cur) rest
    pub wrote : Wrote fits after A m (as_fed s) chunk first page (as_fed cur) rest

  pub telling_start : (s : Feeder T n) (chunk : List ℕ) (page : Page) → Can s.kept → Room page (m * length chunk) → Telling s chunk page page s chunk
  telling_start s chunk page h r = record { can = h; upto = upto_start fits after (as_fed s) chunk; wrote = wrote_start fits after A (as_fed s) chunk page r }

  module _ {s : Feeder T n} {chunk : List ℕ} {first page : Page} {cur : Feeder T n} {rest : List ℕ} (u : Telling s chunk first page cur rest) where
    -- there is room for one answer
    pub line_room : 0 < length rest → Room page m
    line_room h = let l = mul-le-mul_left m h in omega (arith, u.wrote.room, l)

    -- a part of the rest went to the line, which is l with the numbers ns after it
    module _ (h : 0 < length rest) (g : cur.stopped ≡ false) {behind : List ℕ} {l : Line} {ns : List ℤ} {ended : Bool}
        (e : part_of (as_fed cur).reading rest ≡ record { reading = record { line = l; numbers = ns }; ended = ended; behind = behind })
        (k : length behind < length rest) where
      abbrev good : Bool
      good = ended && is_good fits (record { line = l; numbers = ns })

      pub told_within : ended ≡ true → l.bad ≡ false → l.count ≤ length ns
      told_within x y = count_within (as_fed cur).reading rest e x y

      -- it ends a good line, which is told
      pub telling_good : {t : T} {start : Line} {next : Page} {text : List ℕ}
          → good ≡ true → t ≡ after cur.kept (take l.count ns) → Can t → start ≡ line_start
          → A cur.kept (take l.count ns) text → Put page next text → next.at ≤ page.at + m →
          Telling s chunk first next (record { kept = t; line = start; numbers = ns; begun = false; stopped = false }) behind
      telling_good {t} {start} {next} y et c es a put near =
          let f : line_due (after cur.kept (take l.count ns)) ns
          ≡ record { kept = t; reading = record { line = start; numbers = ns }; begun = false; stopped = false } =
          rw (et, es) refl in
          record {
            can = c;
            upto = subst (λ (x : Fed T). Upto fits after (as_fed s) chunk x behind) f (upto_good fits after u.upto h g e y);
            wrote = subst (λ (x : Fed T). Wrote fits after A m (as_fed s) chunk first next x behind) f (wrote_good fits after A u.wrote h g e k y a put near);
          }

      -- it ends none, or the line goes on
      pub telling_else : {next : Page} → good ≡ false → Put page next [] → next.at ≤ page.at + m
          → Telling s chunk first next (record { kept = cur.kept; line = l; numbers = ns; begun = true; stopped = ended }) behind
      telling_else y put near =
          record { can = u.can; upto = upto_else fits after u.upto h g e y; wrote = wrote_else fits after A u.wrote h g e k y put near }

    -- the end: of the chunk, or at a bad line
    abbrev pub AllTold : Type 0
    AllTold = record {
      can : Can cur.kept;
      value : as_fed cur ≡ fed_of fits after (as_fed s) chunk;
      put : (text : List ℕ) × Said fits after A (as_fed s) chunk text × Put first page text;
      bound : page.at ≤ first.at + m * length chunk;
    }

    pub telling_past : length rest ≡ 0 → AllTold
    telling_past h =
        let w = wrote_past fits after A u.wrote h in record { can = u.can; value = upto_past fits after u.upto h; put = w.0; bound = w.1 }

    pub telling_stopped : cur.stopped ≡ true → AllTold
    telling_stopped h =
        let w = wrote_stopped fits after A u.wrote h in record { can = u.can; value = upto_stopped fits after u.upto h; put = w.0; bound = w.1 }
