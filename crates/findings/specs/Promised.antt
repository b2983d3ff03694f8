-- What the program's words promise: they say what the reader gives, and what they name is at fault.
use Rattle.std.specs.Prelude.{◌≡◌, false, List, ◌++◌, ℕ, ◌+◌, ◌-◌, ◌≤◌, ◌<◌, ℤ, pos, get_or, take, Ok, Err}
use Rattle.fixed.specs.Fixed.{is_in}
use Rattle.fixed.specs.Refusal.{number_of}
use Rattle.fixed.specs.declared.refusal.Refusal.{Refusal}
use Rattle.settings.specs.declared.Settings.{Settings}
use Rattle.settings.specs.Settings.{accepted, refusal, tied}
use Rattle.settings.specs.Words.{entries, entry_at, size, words_of}
use Rattle.sheet.specs.declared.Unread.TheVariants.{Refused, Faulty}
use Rattle.sheet.specs.Sheet.{lines_of, read_sheet}
use Rattle.findings.specs.Phrases as say
use Rattle.findings.specs.Findings.{from_line, fault_text, first_out, untied_at, refused_text, answer_text}

-- ════ what is said is what is read
-- a text that is read as settings: 0 and the text itself, byte for byte
abbrev pub GoodEchoed : Type 0
GoodEchoed = (bs : List ℕ) (s : Settings) → read_sheet bs ≡ Ok s → answer_text bs ≡ say.accepted ++ bs

-- 17: the line that comes with it, and what stands there
abbrev pub FaultTold : Type 0
FaultTold = (bs : List ℕ) (j : ℕ) → read_sheet bs ≡ Err (Faulty j) → answer_text bs ≡ fault_text j (from_line (j - 1) bs)

-- 1 to 5: the number, and why the settings that stand in the text are refused
pub record Told (bs : List ℕ) (n : ℤ) : Type 0 where
  pub settings : Settings
  pub stand : lines_of bs ≡ Ok settings
  pub refused : accepted settings ≡ false
  pub number : refusal settings ≡ n
  pub said : answer_text bs ≡ refused_text settings n

abbrev pub RefusalTold : Type 0
RefusalTold = (bs : List ℕ) (r : Refusal) → read_sheet bs ≡ Err (Refused r) → Told bs (number_of r)

-- what stands behind the first 500 bytes changes nothing: so it need not be read
abbrev pub UnreadChangesNothing : Type 0
UnreadChangesNothing = (bs : List ℕ) (n : ℕ) → 500 ≤ n → answer_text (take n bs) ≡ answer_text bs

-- ════ what is named is at fault
-- a refusal with another number than 3 names a word, and that word is out of its range
abbrev pub WordOut : Type 0
WordOut = (s : Settings) → accepted s ≡ false → (refusal s ≡ pos 3 → ⊥)
    → (first_out entries (words_of s) < size)
    × (is_in (entry_at (first_out entries (words_of s))).range (get_or (words_of s) (first_out entries (words_of s)) (pos 0)) ≡ false)

-- a word of settings at a place
abbrev pub word_at : Settings → ℕ → ℤ
word_at s k = get_or (words_of s) k (pos 0)

-- with 3 the gain set that is named does not hold together
abbrev pub SetUntied : Type 0
SetUntied = (s : Settings) → refusal s ≡ pos 3 → tied (word_at s (untied_at s)) (word_at s (untied_at s + 1)) (word_at s (untied_at s + 2)) ≡ false
