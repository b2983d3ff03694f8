-- What the check of settings settles: that refused ones make a record broken, and what settings make.
-- Assumes nothing.
use mathlib.Core.Path.{◌≡◌, refl, sym, ap}
use mathlib.Core.Bool.{true, cond}
use Rattle.std.specs.Prelude.{Ok, Err}
use Rattle.fixed.specs.declared.refusal.Refusal.{Refusal}
use Rattle.fixed.specs.Refusal.{refuse}
use Rattle.settings.specs.declared.Settings.{Settings}
use Rattle.drive_record.specs.declared.Drive.{Drive}
use Rattle.fixed.proofs.LadderLaws.{answered_by_lem}
use Rattle.settings.specs.Settings.{refusals, refusal, accepted, checked}
use Rattle.settings.proofs.Ranges.{checked_accepted, checked_refused}
use Rattle.drive_record.specs.Record.{sound, broken}
use Rattle.drive.specs.Calls.{fresh, made}

-- a record whose settings are refused is broken
pub refused_broken : (d : Drive) (r : Refusal) → checked d.settings ≡ Err r → broken d ≡ true
unfolding broken sound
refused_broken d r e = rw (checked_refused d.settings r e).0 refl

-- settings that the check hands back are accepted; what it answers settles what settings make
pub ready_accepted : (s a : Settings) → checked s ≡ Ok a → accepted a ≡ true
ready_accepted s a e = let h = checked_accepted s a e in rw h.1 at h.0

pub made_is : (s : Settings) → made s ≡ cond (accepted s) (Ok (fresh s)) (refuse (refusal s))
unfolding made accepted refusal
made_is s = answered_by_lem refuse (refusals s) (Ok (fresh s))

pub made_ready : (s a : Settings) → checked s ≡ Ok a → made s ≡ Ok (fresh a)
made_ready s a e = let h = checked_accepted s a e in rw (made_is s, h.0) (ap (λ (x : Settings). Ok (fresh x)) h.1)

pub made_refused : (s : Settings) (r : Refusal) → checked s ≡ Err r → made s ≡ Err r
made_refused s r e = let h = checked_refused s r e in rw (made_is s, h.0) (ap (λ (x : Refusal). Err x) (sym h.1))
