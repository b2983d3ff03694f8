-- What the list of names promises: its ranges are those that settings are tested against, so a range that is told from it is the one that refuses.
use Rattle.std.specs.Prelude.{◌≡◌, true, ◌↔◌}
use Rattle.settings.specs.declared.Settings.{Settings}
use Rattle.settings.specs.Settings.{accepted, gains_tied}
use Rattle.settings.specs.Words.{words_of, entries, all_in}

-- settings are accepted exactly when every word is in its entry's range and both gain sets hold together
abbrev pub RangesAre : Type 0
RangesAre = (s : Settings) → (accepted s ≡ true) ↔ ((all_in entries (words_of s) ≡ true) × (gains_tied s ≡ true))
