-- The words of the program sheet, in bytes (docs/RULES.md, "The program sheet").
use Rattle.std.specs.Prelude.{ℕ, List, [], ◌∷◌}

-- `0` and a line feed
unfoldable pub accepted : List ℕ
accepted = 48 ∷ 10 ∷ []

-- `17 line `
unfoldable pub line17 : List ℕ
line17 = 49 ∷ 55 ∷ 32 ∷ 108 ∷ 105 ∷ 110 ∷ 101 ∷ 32 ∷ []

-- `: expected `
unfoldable pub expected : List ℕ
expected = 58 ∷ 32 ∷ 101 ∷ 120 ∷ 112 ∷ 101 ∷ 99 ∷ 116 ∷ 101 ∷ 100 ∷ 32 ∷ []

-- ` and a whole number of one to five digits, with no zero in front`
unfoldable pub whole_kind : List ℕ
whole_kind =
    32 ∷ 97 ∷ 110 ∷ 100 ∷ 32 ∷ 97 ∷ 32 ∷ 119 ∷ 104 ∷ 111 ∷ 108 ∷ 101 ∷ 32 ∷ 110 ∷ 117 ∷ 109 ∷ 98 ∷ 101 ∷ 114 ∷ 32
    ∷ 111 ∷ 102 ∷ 32 ∷ 111 ∷ 110 ∷ 101 ∷ 32 ∷ 116 ∷ 111 ∷ 32 ∷ 102 ∷ 105 ∷ 118 ∷ 101 ∷ 32 ∷ 100 ∷ 105 ∷ 103 ∷ 105
    ∷ 116 ∷ 115 ∷ 44 ∷ 32 ∷ 119 ∷ 105 ∷ 116 ∷ 104 ∷ 32 ∷ 110 ∷ 111 ∷ 32 ∷ 122 ∷ 101 ∷ 114 ∷ 111 ∷ 32 ∷ 105 ∷ 110
    ∷ 32 ∷ 102 ∷ 114 ∷ 111 ∷ 110 ∷ 116 ∷ []

-- ` and a gain such as 0.25 or 2, a whole number of 4096ths, with a point, no comma, no zero in front or behind`
unfoldable pub gain_kind : List ℕ
gain_kind =
    32 ∷ 97 ∷ 110 ∷ 100 ∷ 32 ∷ 97 ∷ 32 ∷ 103 ∷ 97 ∷ 105 ∷ 110 ∷ 32 ∷ 115 ∷ 117 ∷ 99 ∷ 104 ∷ 32 ∷ 97 ∷ 115 ∷ 32
    ∷ 48 ∷ 46 ∷ 50 ∷ 53 ∷ 32 ∷ 111 ∷ 114 ∷ 32 ∷ 50 ∷ 44 ∷ 32 ∷ 97 ∷ 32 ∷ 119 ∷ 104 ∷ 111 ∷ 108 ∷ 101 ∷ 32 ∷ 110
    ∷ 117 ∷ 109 ∷ 98 ∷ 101 ∷ 114 ∷ 32 ∷ 111 ∷ 102 ∷ 32 ∷ 52 ∷ 48 ∷ 57 ∷ 54 ∷ 116 ∷ 104 ∷ 115 ∷ 44 ∷ 32 ∷ 119
    ∷ 105 ∷ 116 ∷ 104 ∷ 32 ∷ 97 ∷ 32 ∷ 112 ∷ 111 ∷ 105 ∷ 110 ∷ 116 ∷ 44 ∷ 32 ∷ 110 ∷ 111 ∷ 32 ∷ 99 ∷ 111 ∷ 109
    ∷ 109 ∷ 97 ∷ 44 ∷ 32 ∷ 110 ∷ 111 ∷ 32 ∷ 122 ∷ 101 ∷ 114 ∷ 111 ∷ 32 ∷ 105 ∷ 110 ∷ 32 ∷ 102 ∷ 114 ∷ 111 ∷ 110
    ∷ 116 ∷ 32 ∷ 111 ∷ 114 ∷ 32 ∷ 98 ∷ 101 ∷ 104 ∷ 105 ∷ 110 ∷ 100 ∷ []

-- `the end of the sheet`
unfoldable pub the_end : List ℕ
the_end =
    116 ∷ 104 ∷ 101 ∷ 32 ∷ 101 ∷ 110 ∷ 100 ∷ 32 ∷ 111 ∷ 102 ∷ 32 ∷ 116 ∷ 104 ∷ 101 ∷ 32 ∷ 115 ∷ 104 ∷ 101 ∷ 101
    ∷ 116 ∷ []

-- `; found `
unfoldable pub found : List ℕ
found = 59 ∷ 32 ∷ 102 ∷ 111 ∷ 117 ∷ 110 ∷ 100 ∷ 32 ∷ []

-- `nothing`
unfoldable pub nothing : List ℕ
nothing = 110 ∷ 111 ∷ 116 ∷ 104 ∷ 105 ∷ 110 ∷ 103 ∷ []

-- ` and more`
unfoldable pub and_more : List ℕ
and_more = 32 ∷ 97 ∷ 110 ∷ 100 ∷ 32 ∷ 109 ∷ 111 ∷ 114 ∷ 101 ∷ []

-- ` without a line feed`
unfoldable pub without_feed : List ℕ
without_feed =
    32 ∷ 119 ∷ 105 ∷ 116 ∷ 104 ∷ 111 ∷ 117 ∷ 116 ∷ 32 ∷ 97 ∷ 32 ∷ 108 ∷ 105 ∷ 110 ∷ 101 ∷ 32 ∷ 102 ∷ 101 ∷ 101
    ∷ 100 ∷ []

-- `: `
unfoldable pub colon : List ℕ
colon = 58 ∷ 32 ∷ []

-- ` is `
unfoldable pub is : List ℕ
is = 32 ∷ 105 ∷ 115 ∷ 32 ∷ []

-- `, and must be `
unfoldable pub must_be : List ℕ
must_be = 44 ∷ 32 ∷ 97 ∷ 110 ∷ 100 ∷ 32 ∷ 109 ∷ 117 ∷ 115 ∷ 116 ∷ 32 ∷ 98 ∷ 101 ∷ 32 ∷ []

-- ` to `
unfoldable pub to : List ℕ
to = 32 ∷ 116 ∷ 111 ∷ 32 ∷ []

-- ` times `
unfoldable pub times : List ℕ
times = 32 ∷ 116 ∷ 105 ∷ 109 ∷ 101 ∷ 115 ∷ 32 ∷ []
