-- The settings' names as the code keeps them.
use Rattle.std.specs.Prelude.{◌≡◌, ◌≤◌, pos, length}
use Rattle.settings.specs.Words.{Entry, key}
use Rattle.names.specs.declared.Field.{Field}

-- an entry as the code keeps it; a name has five bytes at most
pub record IsFieldOf (f : Field) (e : Entry) : Type 0 where
  pub key : f.key.now ≡ key e
  pub few : length f.key.now ≤ 6
  pub gain : f.gain ≡ e.gain
  pub lo : f.lo ≡ pos e.range.lo
  pub hi : f.hi ≡ pos e.range.hi
