-- What is said of a read and a write.
use Rattle.std.specs.Prelude.{◌≡◌, ℕ, ◌<◌, ◌≤◌, List, length, take, Option}
use Rattle.std.specs.Io.KnownBytes.{Appends}

-- so many bytes are that many: they are within what there is, and taking them takes none less
abbrev pub IsPrefixLen : ℕ → List ℕ → Type 0
IsPrefixLen n xs = (n ≤ length xs) × (n ≡ length (take n xs))

-- of so many bytes a writer took some front, and nothing else
abbrev pub AppendsFront : Option (List ℕ) → Option (List ℕ) → List ℕ → ℕ → Type 0
AppendsFront old new xs most = (n : ℕ) × (n ≤ most) × Appends old new (take n xs)

-- of two texts, one behind the other, some front of each
abbrev pub AppendsFronts : Option (List ℕ) → Option (List ℕ) → List ℕ → List ℕ → Type 0
AppendsFronts old new xs ys = (between : Option (List ℕ)) × AppendsFront old between xs (length xs) × AppendsFront between new ys (length ys)

-- and fewer than so many
abbrev pub AppendsLess : Option (List ℕ) → Option (List ℕ) → List ℕ → ℕ → Type 0
AppendsLess old new xs all = (n : ℕ) × (n < all) × Appends old new (take n xs)
