-- What stands after an input was fed through: f is what the reader had left at first, g what it has now; v is what the writer held, w what it holds. A read
-- has room for so many bytes.
use Rattle.std.specs.Prelude.{◌≡◌, ℕ, ◌<◌, ◌≤◌, Bool, true, false, List, [], ◌++◌, length, take, Option}
use Rattle.std.specs.Io.KnownBytes.{Appends, Consumes, IsAtEnd}
use Rattle.pipes.specs.declared.Trouble.{Trouble}
use Rattle.pipes.specs.declared.Trouble.TheVariants.{Unread, Unsent}
use Rattle.pipes.specs.Counts.{AppendsFront}

module _ {S : Type 0} (feeds : S → List ℕ → S → List ℕ → Type 0) (over : S → Bool) (room : ℕ) where
  -- no more was read once nothing more was looked at: behind what had not come to that, or behind nothing, there is no more than a read has room for
  pub record Asked (first : S) (eaten : List ℕ) : Type 0 where
    pub front : List ℕ
    pub chunk : List ℕ
    pub whole : eaten ≡ front ++ chunk
    pub few : length chunk ≤ room
    -- what the front made of it, and what that is answered
    pub before : S
    pub answered : List ℕ
    pub fed : feeds first front before answered
    pub looked : over before ≡ true → front ≡ []

  pub record Through (first last : S) (f g v w : Option (List ℕ)) : Type 0 where
    -- the bytes that were read, and what they are answered
    pub eaten : List ℕ
    pub text : List ℕ
    pub read : Consumes f g eaten
    pub fed : feeds first eaten last text
    pub sent : Appends v w text
    -- it ends only where the input does, or nothing more is looked at
    pub ends : over last ≡ false → length eaten < 18446744073709551615 → IsAtEnd g
    pub asked : Asked first eaten

  -- what stands where a read or a write failed, for that reason: what was read was fed, and what stands after it is last; of what that is answered all was
  -- sent where it was a read that failed; where it was a write, all that the front was answered was sent, and not the whole text
  pub record BrokenOff (why : Trouble) (first : S) (f g v w : Option (List ℕ)) : Type 0 where
    pub eaten : List ℕ
    pub text : List ℕ
    pub last : S
    pub read : Consumes f g eaten
    pub fed : feeds first eaten last text
    pub asked : Asked first eaten
    pub sent : AppendsFront v w text (length text)
    pub all_sent : why ≡ Unread → Appends v w text
    pub cut_off : why ≡ Unsent → (n : ℕ) × (length asked.answered ≤ n) × (n < length text) × Appends v w (take n text)
