-- Which lines are calls, what each is answered, and what is kept of them.
use Rattle.std.specs.Prelude.{ℕ, ◌+◌, Bool, cond, ◌&&◌, ◌||◌, List, [], ◌∷◌, eqb, ℤ, pos, length, get_or, drop, Result, Ok, Err}
use Rattle.fixed.specs.Fixed.{within, equal}
use Rattle.fixed.specs.declared.refusal.Refusal.{Refusal}
use Rattle.fixed.specs.Refusal.{number_of}
use Rattle.settings.specs.declared.Settings.{Settings}
use Rattle.settings.specs.Words.{size, settings_of}
use Rattle.shaft.specs.declared.Shaft.{Shaft}
use Rattle.field.specs.declared.Field.{Field}
use Rattle.drive_record.specs.declared.Command.{Command}
use Rattle.drive_record.specs.declared.Integrals.{Integrals}
use Rattle.drive_record.specs.declared.Drive.{Drive}
use Rattle.stages.specs.declared.Stepped.{Stepped}
use Rattle.drive.specs.declared.Answered.{Answered}
use Rattle.drive.specs.Calls.{made, stepped, targeted, cleared}
use Rattle.writing.specs.Decimal.{line_text}
use Rattle.feeding.specs.Lines.{one_more}
use Rattle.probe.specs.declared.Calls.{Calls}
use Rattle.probe.specs.declared.Call.{Call}
use Rattle.probe.specs.declared.Call.TheVariants.{Make, Step, Target, Clear}

-- the call, the settings, the 15 words of the record, the call's own numbers: where the record and where the own begin, and the most there are
abbrev pub record_at : ℕ
record_at = 1 + size

abbrev pub own_at : ℕ
own_at = record_at + 15

abbrev pub most : ℕ
most = own_at + 3

-- a word of the record that is a flag is 0 or 1: whether a count was seen is its second, whether it is tripped its last
abbrev pub is_flag : ℤ → Bool
is_flag word = within (pos 0) (pos 1) word

abbrev pub flags : List ℤ → Bool
flags ns = is_flag (get_or ns (record_at + 1) (pos 0)) && is_flag (get_or ns (record_at + 14) (pos 0))

-- so many numbers, of which the first says which call it is: 0 make, 1 step, 2 target, 3 clear
abbrev pub call : List ℤ → ℤ → Bool
call ns k = equal k (get_or ns 0 (pos 0))

unfoldable pub call_by : List ℤ → ℕ → Bool
call_by ns n =
    (eqb n record_at && call ns (pos 0)) || (eqb n most && (call ns (pos 1) && flags ns))
    || (eqb n (own_at + 1) && (call ns (pos 2) && flags ns)) || (eqb n own_at && (call ns (pos 3) && flags ns))

unfoldable pub is_call : List ℤ → Bool
is_call ns = call_by ns (length ns)

-- what is kept of the lines is how many there were
abbrev pub calls_start : Calls
calls_start = record { before = 0 }

unfoldable pub calls_after : Calls → List ℤ → Calls
calls_after c ns = record { before = one_more c.before }

-- ════ a call of its numbers
-- the number at a place
abbrev pub word_at : List ℤ → ℕ → ℤ
word_at ns i = get_or ns i (pos 0)

-- a flag is set where its word is 1
abbrev pub flag_of : ℤ → Bool
flag_of word = equal (pos 1) word

-- the settings stand behind the first number
abbrev pub settings_at : List ℤ → Settings
settings_at ns = settings_of (drop 1 ns)

-- the parts of the record
unfoldable pub shaft_at : List ℤ → Shaft
shaft_at ns = record {
  count = word_at ns record_at;
  seen = flag_of (word_at ns (record_at + 1));
  sum = word_at ns (record_at + 2);
  steps = word_at ns (record_at + 3);
  speed = word_at ns (record_at + 4);
}

unfoldable pub command_at : List ℤ → Command
command_at ns = record {
  target = word_at ns (record_at + 5);
  reference = word_at ns (record_at + 6);
  torque = word_at ns (record_at + 7);
  flux = word_at ns (record_at + 8);
}

unfoldable pub field_at : List ℤ → Field
field_at ns = record { fine = word_at ns (record_at + 9); angle = word_at ns (record_at + 10) }

unfoldable pub integrals_at : List ℤ → Integrals
integrals_at ns =
    record { speed = word_at ns (record_at + 11); d = word_at ns (record_at + 12); q = word_at ns (record_at + 13) }

unfoldable pub drive_at : List ℤ → Drive
drive_at ns = record {
  settings = settings_at ns;
  shaft = shaft_at ns;
  command = command_at ns;
  field = field_at ns;
  integrals = integrals_at ns;
  tripped = flag_of (word_at ns (record_at + 14));
}

-- the call that a line is, where it is one
unfoldable pub call_of : List ℤ → Call
call_of ns =
    cond (call ns (pos 0)) (Make (settings_at ns))
    (cond (call ns (pos 1)) (Step (drive_at ns) (word_at ns own_at) (word_at ns (own_at + 1)) (word_at ns (own_at + 2)))
    (cond (call ns (pos 2)) (Target (drive_at ns) (word_at ns own_at)) (Clear (drive_at ns))))

-- ════ the words that it is answered
-- a flag is 1 where it is set
abbrev pub flag_word : Bool → ℤ
flag_word set = cond set (pos 1) (pos 0)

-- the 15 words of a record, its settings left out
unfoldable pub record_words : Drive → List ℤ
record_words d =
    d.shaft.count
    ∷ flag_word d.shaft.seen
    ∷ d.shaft.sum
    ∷ d.shaft.steps
    ∷ d.shaft.speed
    ∷ d.command.target
    ∷ d.command.reference
    ∷ d.command.torque
    ∷ d.command.flux
    ∷ d.field.fine
    ∷ d.field.angle
    ∷ d.integrals.speed
    ∷ d.integrals.d
    ∷ d.integrals.q
    ∷ flag_word d.tripped
    ∷ []

-- make: 0 and the fresh record, or why the settings are refused, alone
abbrev pub made_words : Result Drive Refusal → List ℤ
made_words (Ok d) = pos 0 ∷ record_words d
made_words (Err why) = number_of why ∷ []

-- step: its number, the three compares, whether they are clipped, the voltage, and the record after it
abbrev pub stepped_words : Stepped → List ℤ
stepped_words s =
    s.number
    ∷ s.pulses.a
    ∷ s.pulses.b
    ∷ s.pulses.c
    ∷ flag_word s.pulses.clipped
    ∷ s.voltage.alpha
    ∷ s.voltage.beta
    ∷ record_words s.drive

-- target and clear: the number, and the record after it
abbrev pub answered_words : Answered → List ℤ
answered_words a = a.number ∷ record_words a.drive

-- a call: what the drive answers it
abbrev pub answer_words : Call → List ℤ
answer_words (Make s) = made_words (made s)
answer_words (Step d ia ib count) = stepped_words (stepped d ia ib count)
answer_words (Target d wanted) = answered_words (targeted d wanted)
answer_words (Clear d) = answered_words (cleared d)

-- the answer to a line that is a call
unfoldable pub call_text : List ℤ → List ℕ
call_text ns = line_text (answer_words (call_of ns))
