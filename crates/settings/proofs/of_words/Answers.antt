-- `settings::of_words` meets its contract.
-- Assumes nothing.
use Rattle.fixed.proofs.Reading.{read_ok32}
use Rattle.settings.specs.Words.{settings_of}
use Rattle.settings.proofs.of_words.Goals as goal

pub returns : goal.returns
unfolding settings_of
returns c =
    let c15 = c in
    let c14 = c15.before in
    let c13 = c14.before in
    let c12 = c13.before in
    let c11 = c12.before in
    let c10 = c11.before in
    let c9 = c10.before in
    let c8 = c9.before in
    let c7 = c8.before in
    let c6 = c7.before in
    let c5 = c6.before in
    let c4 = c5.before in
    let c3 = c4.before in
    let c2 = c3.before in
    let c1 = c2.before in
    simp (
      read_ok32,
      c1.result-1.given,
      c2.result-2-1.given,
      c3.result-3-1.given,
      c4.result-4-1.given,
      c5.result-5-1.given,
      c6.result-6-1.given,
      c7.result-7-1.given,
      c8.result-8-1.given,
      c9.result-9-1.given,
      c10.result-10-1.given,
      c11.result-11-1.given,
      c12.result-12-1.given,
      c13.result-13-1.given,
      c14.result-14-1.given,
      c15.result-15-1.given,
    )
