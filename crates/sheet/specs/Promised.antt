-- What the sheet promises. The members are in proofs/Promises.
use Rattle.std.specs.Prelude.{◌≡◌, Bool, true, false, ◌↔◌, Some, Result, Ok, Err, List, ◌∷◌, ◌++◌, ℕ, ◌≤◌, ◌<◌, pos, length, take, drop}
use Rattle.settings.specs.declared.Settings.{Settings}
use Rattle.settings.specs.Settings.{accepted, refusal}
use Rattle.settings.specs.Words.{entries}
use Rattle.fixed.specs.declared.refusal.Refusal.{Refusal}
use Rattle.fixed.specs.Refusal.{reason, number_of as reason_number}
use Rattle.sheet.specs.declared.Unread.{Unread}
use Rattle.sheet.specs.declared.Unread.TheVariants.{Refused, Faulty}
use Rattle.sheet.specs.declared.Unwritten.TheVariants.{Barred, Short}
use Rattle.values.specs.Value.{value_text, number_of}
use Rattle.sheet.specs.Sheet.{sheet_text, lines_of, read_sheet, wrote, sheet_in}
use Rattle.values.specs.Value.{top}
use Rattle.sheet.specs.Faults.{FirstFault}
use Rattle.sheet.specs.Calls.{reading_of}

-- ════ exactly one sheet
-- a text is a value exactly when it is the text of that number, and the number one that five digits in front of the point can have
abbrev pub OneText : Type 0
OneText = (gain : Bool) (bs : List ℕ) (w : ℕ) → (number_of gain bs ≡ Some w) ↔ ((w < top gain) × (bs ≡ value_text gain w))

-- what is written for accepted settings is read as them
abbrev pub ReadBack : Type 0
ReadBack = (s : Settings) → accepted s ≡ true → read_sheet (sheet_text s) ≡ Ok s

-- every text that is read as settings is what is written for them, and they are accepted
abbrev pub NoOtherText : Type 0
NoOtherText = (bs : List ℕ) (s : Settings) → read_sheet bs ≡ Ok s → (accepted s ≡ true) × (bs ≡ sheet_text s)

-- so accepted settings have exactly one sheet
abbrev pub OneSheet : Type 0
OneSheet = (s : Settings) → accepted s ≡ true → (bs : List ℕ) → (read_sheet bs ≡ Ok s) ↔ (bs ≡ sheet_text s)

-- ════ what is refused
-- 17 comes with line j exactly when j is the first line that is not as it must be
abbrev pub FirstFaultyLine : Type 0
FirstFaultyLine = (bs : List ℕ) (j : ℕ) → (read_sheet bs ≡ Err (Faulty j)) ↔ FirstFault 1 entries bs j

-- and it is one of 1 to 16
abbrev pub LineInRange : Type 0
LineInRange = (bs : List ℕ) (j : ℕ) → read_sheet bs ≡ Err (Faulty j) → (1 ≤ j) × (j ≤ 16)

-- a text with a comma (44) anywhere is refused with 17
abbrev pub CommaRefused : Type 0
CommaRefused = (xs ys : List ℕ) → (j : ℕ) × (read_sheet (xs ++ (44 ∷ ys)) ≡ Err (Faulty j))

-- numbers 1 to 5 are given exactly where every line is good, and the settings that stand in them are refused with that number
abbrev pub RefusedAsSettings : Type 0
RefusedAsSettings = (bs : List ℕ) (r : Refusal) →
    (read_sheet bs ≡ Err (Refused r)) ↔ ((s : Settings) × (lines_of bs ≡ Ok s) × (accepted s ≡ false) × (refusal s ≡ reason_number r))

-- a text whose lines are all good is the text of the settings in it
abbrev pub GoodText : Type 0
GoodText = (bs : List ℕ) (s : Settings) → lines_of bs ≡ Ok s → bs ≡ sheet_text s

-- what stands behind the first 500 bytes changes nothing
abbrev pub SettledEarly : Type 0
SettledEarly = (bs : List ℕ) (n : ℕ) → 500 ≤ n → read_sheet (take n bs) ≡ read_sheet bs

-- ════ what is written
-- refused settings come first, whatever the room is, with the number that refuses them, and nothing is touched
abbrev pub BarredFirst : Type 0
BarredFirst = (s : Settings) (out : List ℕ) → accepted s ≡ false →
    (wrote s (length out) ≡ Err (Barred (reason (refusal s)))) × (reason_number (reason (refusal s)) ≡ refusal s) × (sheet_in s out ≡ out)

-- 18 exactly when settings are accepted and the room is shorter than their sheet, and nothing is touched
abbrev pub ShortExactly : Type 0
ShortExactly = (s : Settings) (n : ℕ) → (wrote s n ≡ Err Short) ↔ ((accepted s ≡ true) × (n < length (sheet_text s)))

abbrev pub ShortLeaves : Type 0
ShortLeaves = (s : Settings) (out : List ℕ) → wrote s (length out) ≡ Err Short → sheet_in s out ≡ out

-- a length n: the sheet is what the first n bytes are, those behind it are as they were, and it is read as the settings. 187 bytes are room for every one
pub record Stands (s : Settings) (out : List ℕ) (n : ℕ) : Type 0 where
  pub text : take n (sheet_in s out) ≡ sheet_text s
  pub behind : drop n (sheet_in s out) ≡ drop n out
  pub back : read_sheet (take n (sheet_in s out)) ≡ Ok s
  pub few : n ≤ 187

abbrev pub WrittenStands : Type 0
WrittenStands = (s : Settings) (out : List ℕ) (n : ℕ) → wrote s (length out) ≡ Ok n → Stands s out n

abbrev pub RoomEnough : Type 0
RoomEnough = (s : Settings) → accepted s ≡ true → length (sheet_text s) ≤ 187

-- ════ for C: settings that come with another number than 0 start no drive
abbrev pub NoneWithout0 : Type 0
NoneWithout0 = (o : Result Settings Unread) → ((s : Settings) → o ≡ Ok s → ⊥) → refusal (reading_of o).settings ≡ pos 1
