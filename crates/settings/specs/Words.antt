-- The settings as words, in the order of the sheet, and back; and each word's name, kind and range.
use Rattle.std.specs.Prelude.{ℕ, Bool, true, false, ◌&&◌, List, [], ◌∷◌, ◌++◌, ℤ, pos, get_or, Result, Ok, Err}
use Rattle.fixed.specs.Fixed.{Range, is_in}
use Rattle.settings.specs.Ranges as range
use Rattle.settings.specs.declared.Settings.{Settings}
use Rattle.fixed.specs.declared.refusal.Refusal.{Refusal}

-- how many words settings are
abbrev pub size : ℕ
size = 15

-- T, speed Kp, Kcor, Ki, current Kp, Kcor, Ki, V, Q, Kr, Kt, Kth, Kn, F, R
unfoldable pub words_of : Settings → List ℤ
words_of s =
    s.t
    ∷ s.skp
    ∷ s.skcor
    ∷ s.ski
    ∷ s.ckp
    ∷ s.ckcor
    ∷ s.cki
    ∷ s.v
    ∷ s.q
    ∷ s.kr
    ∷ s.kt
    ∷ s.kth
    ∷ s.kn
    ∷ s.f
    ∷ s.r
    ∷ []

-- the settings whose words a list begins with
unfoldable pub settings_of : List ℤ → Settings
settings_of l = record {
  t = get_or l 0 (pos 0);
  skp = get_or l 1 (pos 0);
  skcor = get_or l 2 (pos 0);
  ski = get_or l 3 (pos 0);
  ckp = get_or l 4 (pos 0);
  ckcor = get_or l 5 (pos 0);
  cki = get_or l 6 (pos 0);
  v = get_or l 7 (pos 0);
  q = get_or l 8 (pos 0);
  kr = get_or l 9 (pos 0);
  kt = get_or l 10 (pos 0);
  kth = get_or l 11 (pos 0);
  kn = get_or l 12 (pos 0);
  f = get_or l 13 (pos 0);
  r = get_or l 14 (pos 0);
}

-- the values of each case: the words of accepted settings, and none where they are refused
abbrev pub values_of : Result Settings Refusal → List ℤ
values_of (Ok s) = words_of s
values_of (Err r) = []

-- ════ the names
-- a word's name, in bytes; whether it is a gain, of which 4096 are 1; its range
pub record Entry : Type 0 where
  pub name : List ℕ
  pub gain : Bool
  pub range : Range

abbrev whole : List ℕ → Range → Entry
whole name r = record { name = name; gain = false; range = r }

abbrev gain : List ℕ → Range → Entry
gain name r = record { name = name; gain = true; range = r }

-- T, sKp, sKcor, sKi, cKp, cKcor, cKi, V, Q, Kr, Kt, Kth, Kn, F, R
unfoldable pub entries : List Entry
entries =
    whole (84 ∷ []) range.t
    ∷ gain (115 ∷ 75 ∷ 112 ∷ []) range.kp
    ∷ gain (115 ∷ 75 ∷ 99 ∷ 111 ∷ 114 ∷ []) range.kcor
    ∷ gain (115 ∷ 75 ∷ 105 ∷ []) range.ki
    ∷ gain (99 ∷ 75 ∷ 112 ∷ []) range.kp
    ∷ gain (99 ∷ 75 ∷ 99 ∷ 111 ∷ 114 ∷ []) range.kcor
    ∷ gain (99 ∷ 75 ∷ 105 ∷ []) range.ki
    ∷ whole (86 ∷ []) range.v
    ∷ whole (81 ∷ []) range.q
    ∷ whole (75 ∷ 114 ∷ []) range.kr
    ∷ whole (75 ∷ 116 ∷ []) range.kt
    ∷ whole (75 ∷ 116 ∷ 104 ∷ []) range.kth
    ∷ whole (75 ∷ 110 ∷ []) range.kn
    ∷ whole (70 ∷ []) range.f
    ∷ whole (82 ∷ []) range.r
    ∷ []

-- no entry
abbrev pub no_entry : Entry
no_entry = whole [] range.t

-- entry i, counted from 0
abbrev pub entry_at : ℕ → Entry
entry_at i = get_or entries i no_entry

-- how a line of the sheet begins: the name and an equals sign (61)
abbrev pub key : Entry → List ℕ
key e = e.name ++ (61 ∷ [])

-- words that are as many as the entries, each in its range
unfoldable pub all_in : List Entry → List ℤ → Bool
all_in [] [] = true
all_in [] (z ∷ zs) = false
all_in (e ∷ es) [] = false
all_in (e ∷ es) (z ∷ zs) = is_in e.range z && all_in es zs
