-- What was gathered of a reader: f is what it had left at first, g what it has now.
use Rattle.std.specs.Prelude.{ℕ, ◌≤◌, List, length, take, Option}
use Rattle.std.specs.Io.KnownBytes.{Consumes, IsAtEnd}

pub record Gathering (f g : Option (List ℕ)) (text : List ℕ) (size : ℕ) : Type 0 where
  pub fits : size ≤ length text
  -- the bytes that were read stand in front of the text
  pub read : Consumes f g (take size text)
  -- they are enough, or all there are
  pub ends : size ≤ 3072 → IsAtEnd g
