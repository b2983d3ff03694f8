-- `stream::row_told` meets its contract: on a sound record a step is what `drive::step_sound` does.
-- Assumes nothing.
use Rattle.std.proofs.Common.{rules, arith, refl, ◌≡◌, sym, ◌∙◌, get_or, pos}
use mir.Facts.{to_z-of_z}
use mir.Syntax.{w32}
use mir.Val.{SFits}
use Rattle.fixed.proofs.Same.{same_word}
use Rattle.drive.proofs.Kept.{step_is_sound}
use Rattle.drive_record.proofs.Ranges.{sound→}
use Rattle.fixed.proofs.Reading.{m32}
use Rattle.rows.specs.Rows.{row_stepped, four, is_accepted, is_clipped}
use Rattle.stream.specs.Program.{tally_of, answer_text}
use Rattle.stream.proofs.row_told.Goals as goal

pub returns : goal.returns
unfolding tally_of answer_text four is_accepted is_clipped row_stepped
returns c =
    let l = c.args.row in
    let s = c.step_sound-s.result in
    let f : m32 (get_or l 0 (pos 0)) ≡ get_or l 0 (pos 0) = search rules in
    let g : m32 (get_or l 1 (pos 0)) ≡ get_or l 1 (pos 0) = search rules in
    let h : m32 (get_or l 2 (pos 0)) ≡ get_or l 2 (pos 0) = search rules in
    let fits : SFits w32 s.number = search rules in
    let n = to_z-of_z fits in
    let i : m32 s.pulses.a ≡ s.pulses.a = search rules in
    let j : m32 s.pulses.b ≡ s.pulses.b = search rules in
    let k : m32 s.pulses.c ≡ s.pulses.c = search rules in
    let e : s ≡ row_stepped c.args.t.drive l 0 = simp (f, g, h) at c.step_sound-s.ensures ∙ sym (step_is_sound c.args.t.drive _ _ _ (sound→ _ c.requires.0)) in
    record {
      tally = rw (← e) (cc (n, same_word 0 refl fits));
      put = rw (← e) (simp (n, i, j, k) at c.put_line.ensures.put);
      bound = omega (arith, c.put_line.ensures.bound);
    }
