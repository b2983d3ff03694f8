-- What the program sheet says in five cases, computed from the definitions. The texts stand in bytes; `\n` is a line feed.
-- Assumes nothing.
use mathlib.Core.Path.{◌≡◌, refl}
use mathlib.Core.List.{List, [], ◌∷◌}
use Prim.Native.Nat.{ℕ}
use lib.IntN.{pos}
use Rattle.text.specs.Grammar.{all_digits}
use Rattle.settings.specs.declared.Settings.{Settings}
use Rattle.settings.specs.Settings.{accepted, refusal, period_ok}
use Rattle.settings.specs.Words.{entries, words_of}
use Rattle.settings.specs.BenchSettings.{bench_settings}
use Rattle.writing.specs.Decimal.{decimal, count_text}
use Rattle.values.specs.Value.{
  value_text,
  digits_of,
  zero_in_front,
  whole_of,
  before,
  sum,
  gain_of,
  number_of,
}
use Rattle.sheet.specs.Sheet.{starts, line_of, first_of, and_then, with_first, read_lines, settings_in, lines_of}
use Rattle.findings.specs.Phrases.{line17, expected, whole_kind, gain_kind, found, nothing, and_more, without_feed, colon, is, must_be, to}
use Rattle.findings.specs.Findings.{
  kind_text,
  expected_text,
  shown,
  quoted,
  end_text,
  found_text,
  from_line,
  fault_text,
  is_text,
  ends_text,
  range_text,
  first_out,
  out_text,
  reason_text,
  refused_text,
  judged_text,
  told_text,
  answer_text,
}

-- `17 line 1: expected T= and a whole number of one to five digits, with no zero in front; found nothing\n`
abbrev empty_said : List ℕ
empty_said =
    49 ∷ 55 ∷ 32 ∷ 108 ∷ 105 ∷ 110 ∷ 101 ∷ 32 ∷ 49 ∷ 58 ∷ 32 ∷ 101 ∷ 120 ∷ 112 ∷ 101 ∷ 99 ∷ 116 ∷ 101 ∷ 100 ∷ 32
    ∷ 84 ∷ 61 ∷ 32 ∷ 97 ∷ 110 ∷ 100 ∷ 32 ∷ 97 ∷ 32 ∷ 119 ∷ 104 ∷ 111 ∷ 108 ∷ 101 ∷ 32 ∷ 110 ∷ 117 ∷ 109 ∷ 98 ∷ 101
    ∷ 114 ∷ 32 ∷ 111 ∷ 102 ∷ 32 ∷ 111 ∷ 110 ∷ 101 ∷ 32 ∷ 116 ∷ 111 ∷ 32 ∷ 102 ∷ 105 ∷ 118 ∷ 101 ∷ 32 ∷ 100 ∷ 105
    ∷ 103 ∷ 105 ∷ 116 ∷ 115 ∷ 44 ∷ 32 ∷ 119 ∷ 105 ∷ 116 ∷ 104 ∷ 32 ∷ 110 ∷ 111 ∷ 32 ∷ 122 ∷ 101 ∷ 114 ∷ 111 ∷ 32
    ∷ 105 ∷ 110 ∷ 32 ∷ 102 ∷ 114 ∷ 111 ∷ 110 ∷ 116 ∷ 59 ∷ 32 ∷ 102 ∷ 111 ∷ 117 ∷ 110 ∷ 100 ∷ 32 ∷ 110 ∷ 111 ∷ 116
    ∷ 104 ∷ 105 ∷ 110 ∷ 103 ∷ 10 ∷ []

-- of the empty text
empty : answer_text [] ≡ empty_said
unfolding entries before first_of with_first read_lines settings_in lines_of told_text answer_text line17 decimal count_text expected kind_text expected_text
    found found_text from_line fault_text whole_kind nothing
empty = refl

-- `T=5`
abbrev unended_text : List ℕ
unended_text =
    84 ∷ 61 ∷ 53 ∷ []

-- `17 line 1: expected T= and a whole number of one to five digits, with no zero in front; found "T=5" without a line feed\n`
abbrev unended_said : List ℕ
unended_said =
    49 ∷ 55 ∷ 32 ∷ 108 ∷ 105 ∷ 110 ∷ 101 ∷ 32 ∷ 49 ∷ 58 ∷ 32 ∷ 101 ∷ 120 ∷ 112 ∷ 101 ∷ 99 ∷ 116 ∷ 101 ∷ 100 ∷ 32
    ∷ 84 ∷ 61 ∷ 32 ∷ 97 ∷ 110 ∷ 100 ∷ 32 ∷ 97 ∷ 32 ∷ 119 ∷ 104 ∷ 111 ∷ 108 ∷ 101 ∷ 32 ∷ 110 ∷ 117 ∷ 109 ∷ 98 ∷ 101
    ∷ 114 ∷ 32 ∷ 111 ∷ 102 ∷ 32 ∷ 111 ∷ 110 ∷ 101 ∷ 32 ∷ 116 ∷ 111 ∷ 32 ∷ 102 ∷ 105 ∷ 118 ∷ 101 ∷ 32 ∷ 100 ∷ 105
    ∷ 103 ∷ 105 ∷ 116 ∷ 115 ∷ 44 ∷ 32 ∷ 119 ∷ 105 ∷ 116 ∷ 104 ∷ 32 ∷ 110 ∷ 111 ∷ 32 ∷ 122 ∷ 101 ∷ 114 ∷ 111 ∷ 32
    ∷ 105 ∷ 110 ∷ 32 ∷ 102 ∷ 114 ∷ 111 ∷ 110 ∷ 116 ∷ 59 ∷ 32 ∷ 102 ∷ 111 ∷ 117 ∷ 110 ∷ 100 ∷ 32 ∷ 34 ∷ 84 ∷ 61 ∷ 53
    ∷ 34 ∷ 32 ∷ 119 ∷ 105 ∷ 116 ∷ 104 ∷ 111 ∷ 117 ∷ 116 ∷ 32 ∷ 97 ∷ 32 ∷ 108 ∷ 105 ∷ 110 ∷ 101 ∷ 32 ∷ 102 ∷ 101
    ∷ 101 ∷ 100 ∷ 10 ∷ []

-- of a first line that no line feed ends
unended : answer_text unended_text ≡ unended_said
unfolding entries before first_of with_first read_lines settings_in lines_of told_text answer_text line17 decimal count_text expected kind_text expected_text
    found found_text from_line fault_text whole_kind shown quoted end_text without_feed
unended = refl

-- `T=600\nsKp=1,250\n`
abbrev comma_text : List ℕ
comma_text =
    84 ∷ 61 ∷ 54 ∷ 48 ∷ 48 ∷ 10 ∷ 115 ∷ 75 ∷ 112 ∷ 61 ∷ 49 ∷ 44 ∷ 50 ∷ 53 ∷ 48 ∷ 10 ∷ []

-- `17 line 2: expected sKp= and a gain such as 0.25 or 2, a whole number of 4096ths, with a point, no comma, no zero in front or behind; found "sKp=1,250"\n`
abbrev comma_said : List ℕ
comma_said =
    49 ∷ 55 ∷ 32 ∷ 108 ∷ 105 ∷ 110 ∷ 101 ∷ 32 ∷ 50 ∷ 58 ∷ 32 ∷ 101 ∷ 120 ∷ 112 ∷ 101 ∷ 99 ∷ 116 ∷ 101 ∷ 100 ∷ 32 ∷ 115
    ∷ 75 ∷ 112 ∷ 61 ∷ 32 ∷ 97 ∷ 110 ∷ 100 ∷ 32 ∷ 97 ∷ 32 ∷ 103 ∷ 97 ∷ 105 ∷ 110 ∷ 32 ∷ 115 ∷ 117 ∷ 99 ∷ 104 ∷ 32 ∷ 97
    ∷ 115 ∷ 32 ∷ 48 ∷ 46 ∷ 50 ∷ 53 ∷ 32 ∷ 111 ∷ 114 ∷ 32 ∷ 50 ∷ 44 ∷ 32 ∷ 97 ∷ 32 ∷ 119 ∷ 104 ∷ 111 ∷ 108 ∷ 101 ∷ 32
    ∷ 110 ∷ 117 ∷ 109 ∷ 98 ∷ 101 ∷ 114 ∷ 32 ∷ 111 ∷ 102 ∷ 32 ∷ 52 ∷ 48 ∷ 57 ∷ 54 ∷ 116 ∷ 104 ∷ 115 ∷ 44 ∷ 32 ∷ 119
    ∷ 105 ∷ 116 ∷ 104 ∷ 32 ∷ 97 ∷ 32 ∷ 112 ∷ 111 ∷ 105 ∷ 110 ∷ 116 ∷ 44 ∷ 32 ∷ 110 ∷ 111 ∷ 32 ∷ 99 ∷ 111 ∷ 109 ∷ 109
    ∷ 97 ∷ 44 ∷ 32 ∷ 110 ∷ 111 ∷ 32 ∷ 122 ∷ 101 ∷ 114 ∷ 111 ∷ 32 ∷ 105 ∷ 110 ∷ 32 ∷ 102 ∷ 114 ∷ 111 ∷ 110 ∷ 116 ∷ 32
    ∷ 111 ∷ 114 ∷ 32 ∷ 98 ∷ 101 ∷ 104 ∷ 105 ∷ 110 ∷ 100 ∷ 59 ∷ 32 ∷ 102 ∷ 111 ∷ 117 ∷ 110 ∷ 100 ∷ 32 ∷ 34 ∷ 115 ∷ 75
    ∷ 112 ∷ 61 ∷ 49 ∷ 44 ∷ 50 ∷ 53 ∷ 48 ∷ 34 ∷ 10 ∷ []

-- of a comma in place of a point
comma : answer_text comma_text ≡ comma_said
unfolding entries before first_of with_first read_lines settings_in lines_of told_text answer_text line17 decimal count_text expected kind_text expected_text
    found found_text from_line fault_text gain_kind shown quoted end_text starts line_of number_of all_digits digits_of zero_in_front whole_of sum gain_of
    and_then
comma = refl

-- `sKp=1111111111111111111111111111111111111`, 41 bytes
abbrev long_line : List ℕ
long_line =
    115 ∷ 75 ∷ 112 ∷ 61 ∷ 49 ∷ 49 ∷ 49 ∷ 49 ∷ 49 ∷ 49 ∷ 49 ∷ 49 ∷ 49 ∷ 49 ∷ 49 ∷ 49 ∷ 49 ∷ 49 ∷ 49 ∷ 49 ∷ 49 ∷ 49
    ∷ 49 ∷ 49 ∷ 49 ∷ 49 ∷ 49 ∷ 49 ∷ 49 ∷ 49 ∷ 49 ∷ 49 ∷ 49 ∷ 49 ∷ 49 ∷ 49 ∷ 49 ∷ 49 ∷ 49 ∷ 49 ∷ 49 ∷ []

-- `"sKp=111111111111111111111111111111111111" and more`
abbrev long_said : List ℕ
long_said =
    34 ∷ 115 ∷ 75 ∷ 112 ∷ 61 ∷ 49 ∷ 49 ∷ 49 ∷ 49 ∷ 49 ∷ 49 ∷ 49 ∷ 49 ∷ 49 ∷ 49 ∷ 49 ∷ 49 ∷ 49 ∷ 49 ∷ 49 ∷ 49 ∷ 49
    ∷ 49 ∷ 49 ∷ 49 ∷ 49 ∷ 49 ∷ 49 ∷ 49 ∷ 49 ∷ 49 ∷ 49 ∷ 49 ∷ 49 ∷ 49 ∷ 49 ∷ 49 ∷ 49 ∷ 49 ∷ 49 ∷ 49 ∷ 34 ∷ 32 ∷ 97
    ∷ 110 ∷ 100 ∷ 32 ∷ 109 ∷ 111 ∷ 114 ∷ 101 ∷ []

-- of a line of 41 bytes, of which 40 are shown
long : found_text long_line ≡ long_said
unfolding before and_more shown quoted end_text found_text
long = refl

-- the bench set with T 99
abbrev hasty : Settings
hasty = record {
  t = pos 99;
  skp = bench_settings.skp;
  skcor = bench_settings.skcor;
  ski = bench_settings.ski;
  ckp = bench_settings.ckp;
  ckcor = bench_settings.ckcor;
  cki = bench_settings.cki;
  v = bench_settings.v;
  q = bench_settings.q;
  kr = bench_settings.kr;
  kt = bench_settings.kt;
  kth = bench_settings.kth;
  kn = bench_settings.kn;
  f = bench_settings.f;
  r = bench_settings.r;
}

-- `1: T is 99, and must be 100 to 4000\n`
abbrev refused_said : List ℕ
refused_said =
    49 ∷ 58 ∷ 32 ∷ 84 ∷ 32 ∷ 105 ∷ 115 ∷ 32 ∷ 57 ∷ 57 ∷ 44 ∷ 32 ∷ 97 ∷ 110 ∷ 100 ∷ 32 ∷ 109 ∷ 117 ∷ 115 ∷ 116 ∷ 32
    ∷ 98 ∷ 101 ∷ 32 ∷ 49 ∷ 48 ∷ 48 ∷ 32 ∷ 116 ∷ 111 ∷ 32 ∷ 52 ∷ 48 ∷ 48 ∷ 48 ∷ 10 ∷ []

-- of settings whose T is out of its range
refused : judged_text hasty ≡ refused_said
unfolding entries words_of accepted refusal period_ok decimal count_text value_text colon is must_be to is_text ends_text range_text first_out out_text
    reason_text refused_text judged_text
refused = refl
