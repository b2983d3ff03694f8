-- The promises of specs/Promised hold.
-- Assumes nothing.
use mathlib.Core.Path.{◌≡◌, refl, ap, sym, ◌∙◌}
use mathlib.Core.Bool.{true}
use mathlib.Core.List.{List}
use Prim.Native.Nat.{ℕ, ◌+◌, ◌≤◌}
use native.Mathlib.Nat.{zero-add}
use borrow.Author.Tests.{le-leb}
use lib.IntN.{pos}
use lib.ListN.{length, take, drop}
use lib.Seq.{drop_at}
use Rattle.settings.specs.declared.Settings.{Settings}
use Rattle.settings.specs.Settings.{accepted, refusal, period_ok}
use Rattle.settings.specs.Words.{settings_of}
use Rattle.settings.proofs.Ranges.{refusal_number}
use Rattle.writing.specs.Decimal.{written}
use Rattle.sheet.specs.declared.Unread.TheVariants.{Refused, Faulty}
use Rattle.sheet.specs.Sheet.{sheet_text, read_sheet, sheet_in}
use Rattle.sheet.specs.Calls.{no_settings, reading_of}
use Rattle.sheet.specs.Promised as is
use Rattle.values.proofs.ValueLaws as value
use Rattle.sheet.proofs.SheetLaws as law
use Rattle.sheet.proofs.Putting.{front, barred}
use Rattle.sheet.proofs.Sizes as sizes
use Rattle.sheet.proofs.Early.{sheet_early}
use Rattle.std.specs.Prelude.{Err, Ok}

pub one_text : is.OneText
one_text = value.value_exact

pub read_back : is.ReadBack
read_back = law.sheet_back

pub no_other_text : is.NoOtherText
no_other_text bs s e = let c = law.sheet_only bs s e in (c.accepts, c.text)

pub one_sheet : is.OneSheet
one_sheet s a bs = (λ e. (law.sheet_only bs s e).text, λ e. ap read_sheet e ∙ law.sheet_back s a)

pub first_faulty_line : is.FirstFaultyLine
first_faulty_line bs j = (law.sheet_fault bs j, law.fault_sheet bs j)

pub line_in_range : is.LineInRange
line_in_range = sizes.line_most

pub comma_refused : is.CommaRefused
comma_refused = law.comma_faulty

pub refused_as_settings : is.RefusedAsSettings
refused_as_settings = law.sheet_refused

pub good_text : is.GoodText
good_text = law.good_text

pub settled_early : is.SettledEarly
settled_early = sheet_early

pub barred_first : is.BarredFirst
barred_first s out a = let b = barred s out a in (sym b.0, refusal_number s a, sym b.1)

pub short_exactly : is.ShortExactly
short_exactly = law.short_exactly

pub short_leaves : is.ShortLeaves
short_leaves = law.untouched

-- ════ a length
whole : (s : Settings) (out : List ℕ) → accepted s ≡ true → length (sheet_text s) ≤ length out → sheet_in s out ≡ written out 0 (sheet_text s)
unfolding sheet_in
whole s out a h = rw (a, le-leb (length (sheet_text s)) (length out) h) refl

behind : (o bs : List ℕ) → drop (length bs) (written o 0 bs) ≡ drop (length bs) o
unfolding written
behind o bs = drop_at bs (drop (0 + length bs) o) (length bs) refl ∙ ap (λ (n : ℕ). drop n o) (zero-add (length bs))

pub written_stands : is.WrittenStands
written_stands s out n e =
    let f = sizes.fits s (length out) n e in
    let w = whole s out f.0 f.1 in
    let t : take n (sheet_in s out) ≡ sheet_text s = rw (f.2, w) (front out (sheet_text s)) in
    record {
      text = t;
      behind = rw (f.2, w) (behind out (sheet_text s));
      back = ap read_sheet t ∙ law.sheet_back s f.0;
      few = sizes.length_most s (length out) n e;
    }

pub room_enough : is.RoomEnough
room_enough = sizes.sheet_most

-- ════ zeros
zeros_refused : refusal no_settings ≡ pos 1
unfolding no_settings settings_of refusal period_ok
zeros_refused = refl

pub none_without_0 : is.NoneWithout0
unfolding reading_of
none_without_0 (Ok s) h = absurd (h s refl)
none_without_0 (Err (Refused n)) h = zeros_refused
none_without_0 (Err (Faulty i)) h = zeros_refused
