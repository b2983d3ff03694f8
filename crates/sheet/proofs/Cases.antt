-- The definitions at written bytes; the checker computes each.
-- Assumes nothing.
use mathlib.Core.Path.{◌≡◌, refl, ap}
use mathlib.Core.List.{List, [], ◌∷◌, ◌++◌, map}
use Prim.Native.Nat.{ℕ}
use lib.IntN.{pos}
use lib.ListN.{length, take, drop, replicate}
use Rattle.settings.specs.BenchSettings.{bench_settings, bench_with}
use Rattle.settings.specs.Settings.{accepted, refusal, period_ok, gains_ok, gain_ok, gains_tied, tied, limits_ok, rest_ok}
use Rattle.settings.specs.declared.Settings.{Settings}
use Rattle.settings.specs.Words.{entries, words_of, settings_of}
use Rattle.settings.proofs.AtBench.{bench_accepted as bench_good}
use Rattle.text.specs.Grammar.{all_digits, value_of}
use Rattle.writing.specs.Decimal.{decimal, count_text}
use Rattle.fixed.specs.declared.refusal.Refusal.TheVariants.{Period, Gains, Untied, Limits, Rest}
use Rattle.sheet.specs.declared.Unread.{Unread}
use Rattle.sheet.specs.declared.Unread.TheVariants.{Refused, Faulty}
use Rattle.sheet.specs.declared.Unwritten.TheVariants.{Barred, Short}
use Rattle.values.specs.Value.{fraction_digits, fraction_text, gain_text, value_text}
use Rattle.values.specs.Value.{digits_of, zero_in_front, whole_of, zero_behind, ths_of, fraction_of, before, sum, gain_of, number_of}
use Rattle.sheet.specs.Sheet.{wrote, sheet_in}
use Rattle.sheet.specs.Sheet.{line_text, lines_text, sheet_text}
use Rattle.sheet.specs.Sheet.{starts, line_of, first_of, and_then, with_first, read_lines, settings_in, lines_of, judged, outcome, read_sheet}
use Rattle.std.specs.Prelude.{Result, Ok, Err}

-- ════ sheets
-- the bench set
sheet : List ℕ
sheet =
    (84 ∷ 61 ∷ 54 ∷ 48 ∷ 48 ∷ 10 ∷ [])
    ++ (115 ∷ 75 ∷ 112 ∷ 61 ∷ 50 ∷ 10 ∷ [])
    ++ (115 ∷ 75 ∷ 99 ∷ 111 ∷ 114 ∷ 61 ∷ 48 ∷ 46 ∷ 48 ∷ 49 ∷ 53 ∷ 54 ∷ 50 ∷ 53 ∷ 10 ∷ [])
    ++ (115 ∷ 75 ∷ 105 ∷ 61 ∷ 48 ∷ 46 ∷ 48 ∷ 51 ∷ 49 ∷ 50 ∷ 53 ∷ 10 ∷ [])
    ++ (99 ∷ 75 ∷ 112 ∷ 61 ∷ 49 ∷ 10 ∷ [])
    ++ (99 ∷ 75 ∷ 99 ∷ 111 ∷ 114 ∷ 61 ∷ 48 ∷ 46 ∷ 48 ∷ 54 ∷ 50 ∷ 53 ∷ 10 ∷ [])
    ++ (99 ∷ 75 ∷ 105 ∷ 61 ∷ 48 ∷ 46 ∷ 48 ∷ 54 ∷ 50 ∷ 53 ∷ 10 ∷ [])
    ++ (86 ∷ 61 ∷ 52 ∷ 48 ∷ 57 ∷ 54 ∷ 10 ∷ [])
    ++ (81 ∷ 61 ∷ 51 ∷ 50 ∷ 55 ∷ 55 ∷ 10 ∷ [])
    ++ (75 ∷ 114 ∷ 61 ∷ 55 ∷ 53 ∷ 10 ∷ [])
    ++ (75 ∷ 116 ∷ 61 ∷ 51 ∷ 49 ∷ 48 ∷ 10 ∷ [])
    ++ (75 ∷ 116 ∷ 104 ∷ 61 ∷ 49 ∷ 54 ∷ 52 ∷ 10 ∷ [])
    ++ (75 ∷ 110 ∷ 61 ∷ 54 ∷ 52 ∷ 10 ∷ [])
    ++ (70 ∷ 61 ∷ 50 ∷ 52 ∷ 53 ∷ 56 ∷ 10 ∷ [])
    ++ (82 ∷ 61 ∷ 52 ∷ 49 ∷ 10 ∷ [])

bench_written : sheet_text bench_settings ≡ sheet
unfolding sheet bench_settings sheet_text entries words_of lines_text line_text value_text gain_text count_text decimal fraction_text fraction_digits
bench_written = refl

-- the bench set; nothing; no line feed behind the last line; sKcor is missing; R is missing; sKcor stands twice; Q in front of V; an empty line behind
-- the last; a carriage return; the comma; two faulty lines: the first is named; T is 99999, which is a whole number; sKp is 0; sKp is 1, which sKi does
-- not fit; V is 0; R is 0
sheets : List (List ℕ)
sheets =
    sheet
    ∷ []
    ∷ (take 121 sheet)
    ∷ (take 12 sheet ++ drop 27 sheet)
    ∷ (take 117 sheet)
    ∷ (take 27 sheet ++ drop 12 sheet)
    ∷ (take 69 sheet ++ (take 7 (drop 76 sheet) ++ (take 7 (drop 69 sheet) ++ drop 83 sheet)))
    ∷ (sheet ++ (10 ∷ []))
    ∷ ((84 ∷ 61 ∷ 54 ∷ 48 ∷ 48 ∷ 13 ∷ 10 ∷ []) ++ drop 6 sheet)
    ∷ (take 6 sheet ++ ((115 ∷ 75 ∷ 112 ∷ 61 ∷ 49 ∷ 44 ∷ 50 ∷ 53 ∷ 48 ∷ 10 ∷ []) ++ drop 12 sheet))
    ∷ ((84 ∷ 61 ∷ 48 ∷ 53 ∷ 10 ∷ []) ++ ((115 ∷ 75 ∷ 112 ∷ 61 ∷ 49 ∷ 44 ∷ 50 ∷ 53 ∷ 48 ∷ 10 ∷ []) ++ drop 12 sheet))
    ∷ ((84 ∷ 61 ∷ 57 ∷ 57 ∷ 57 ∷ 57 ∷ 57 ∷ 10 ∷ []) ++ drop 6 sheet)
    ∷ (take 6 sheet ++ ((115 ∷ 75 ∷ 112 ∷ 61 ∷ 48 ∷ 10 ∷ []) ++ drop 12 sheet))
    ∷ (take 6 sheet ++ ((115 ∷ 75 ∷ 112 ∷ 61 ∷ 49 ∷ 10 ∷ []) ++ drop 12 sheet))
    ∷ (take 69 sheet ++ ((86 ∷ 61 ∷ 48 ∷ 10 ∷ []) ++ drop 76 sheet))
    ∷ (take 117 sheet ++ (82 ∷ 61 ∷ 48 ∷ 10 ∷ []))
    ∷ []

outcomes : List (Result Settings Unread)
outcomes =
    Ok bench_settings
    ∷ Err (Faulty 1)
    ∷ Err (Faulty 15)
    ∷ Err (Faulty 3)
    ∷ Err (Faulty 15)
    ∷ Err (Faulty 4)
    ∷ Err (Faulty 8)
    ∷ Err (Faulty 16)
    ∷ Err (Faulty 1)
    ∷ Err (Faulty 2)
    ∷ Err (Faulty 1)
    ∷ Err (Refused Period)
    ∷ Err (Refused Gains)
    ∷ Err (Refused Untied)
    ∷ Err (Refused Limits)
    ∷ Err (Refused Rest)
    ∷ []

sheets_read : map read_sheet sheets ≡ outcomes
unfolding sheets outcomes sheet read_sheet lines_of settings_in read_lines entries first_of line_of starts with_first and_then outcome judged settings_of
    accepted refusal period_ok gains_ok gain_ok gains_tied tied limits_ok rest_ok bench_settings
    number_of gain_of whole_of fraction_of digits_of zero_in_front zero_behind ths_of sum before all_digits value_of
sheets_read = refl

-- ════ written: 122 bytes are just room for the bench set's sheet, 121 are too few, and settings that are refused come before that
length_written : length (sheet_text bench_settings) ≡ 122
unfolding sheet
length_written = ap length bench_written

just_room : wrote bench_settings 122 ≡ Ok 122
unfolding wrote
just_room = rw (length_written, bench_good) refl

too_short : (wrote bench_settings 121 ≡ Err Short) × (sheet_in bench_settings (replicate 121 7) ≡ replicate 121 7)
unfolding wrote sheet_in
too_short = (rw (length_written, bench_good) refl, rw (length_written, bench_good) refl)

-- current gains that are not tied
refused_first : wrote (bench_with (pos 16384) (pos 512) (pos 512)) 0 ≡ Err (Barred Untied)
unfolding wrote accepted refusal period_ok gains_ok gain_ok gains_tied tied
refused_first = refl
