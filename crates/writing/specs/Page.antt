-- What a page holds once a text is put on it.
use Rattle.std.specs.Prelude.{ℕ, ◌≡◌, ◌+◌, ◌≤◌, List, length}
use Rattle.writing.specs.declared.Page.{Page}
use Rattle.writing.specs.Decimal.{written}

-- n bytes fit behind the place
abbrev pub Room : Page → ℕ → Type 0
Room p n = p.at + n ≤ length p.out.now

-- new is old with bs put on it: the same lent bytes, with bs written at the place, which is now behind bs
pub record Put (old new : Page) (bs : List ℕ) : Type 0 where
  pub same : new.out.ghost_name ≡ old.out.ghost_name
  pub place : new.at ≡ old.at + length bs
  pub long : length new.out.now ≡ length old.out.now
  pub within : new.at ≤ length new.out.now
  pub bytes : new.out.now ≡ written old.out.now old.at bs
