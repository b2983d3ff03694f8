-- `sheet::mirgalhet_read_sheet` meets its contract: 17 and the line.
-- Assumes nothing.
use Rattle.std.proofs.Common.{◌∙◌, sym, ap, refl, Err}
use Rattle.sheet.specs.Calls.{reading_of}
use Rattle.sheet.proofs.Sizes.{line_word}
use Rattle.sheet.proofs.mirgalhet_read_sheet.Goals as goal

pub returns-in-Err-Faulty : goal.returns-in-Err-Faulty
unfolding reading_of
returns-in-Err-Faulty c =
    let e = sym c.read.ensures ∙ c.in-Err-Faulty.is ∙ ap Err c.in-Err-Faulty.field-0-is in
    rw (e, c.number-in-Err-Faulty.ensures, c.no_settings-in-Err-Faulty.ensures, line_word c.args.text.now e) refl
