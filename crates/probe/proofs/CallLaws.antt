-- Which lines are calls: numbers past a line's own play no part, and a call has room among `most`. So what stands after any bytes is what the grammar
-- says of their lines (`calls`).
-- Assumes nothing.
use mathlib.Core.Path.{◌≡◌, refl, sym, ◌∙◌, ap}
use mathlib.Core.Bool.{Bool, false, ◌&&◌, ◌||◌, true≢false}
use mathlib.Core.List.{List, []}
use mathlib.Core.Logic.{⊎_elim}
use Prim.Native.Nat.{ℕ, ◌+◌, ◌≤◌}
use native.Mathlib.Omega.{arith}
use borrow.Author.Tests.{eqb-true, ne_eqb}
use lib.Dec.{eqb}
use mir.Syntax.{w32}
use mir.Val.{SFits, of_z}
use Rattle.fixed.proofs.Same.{same_word}
use lib.IntN.{ℤ, pos}
use lib.ListN.{length, get_or, take, replicate}
use lib.Seq.{get_or-take, length-take-le}
use Rattle.fixed.proofs.Choice.{true_or_false, less_or_not}
use Rattle.feeding.specs.Lines.{good_lines, ends_bad, after_all}
use Rattle.feeding.specs.Feeding.{line_due, fed_of}
use Rattle.feeding.proofs.Meaning.{Room as Fits}
use Rattle.feeding.proofs.Whole.{comes}
use Rattle.probe.specs.declared.Calls.{Calls}
use Rattle.probe.specs.Calls.{record_at, own_at, most, flags, call, call_by, is_call, calls_start, calls_after}

room : Fits is_call most
unfolding is_call call_by
room zs h =
    ⊎_elim
    (λ l. let n : (k : ℕ) → k ≤ most → eqb (length zs) k ≡ false = λ k m. ne_eqb (length zs) k (λ (e : length zs ≡ k). omega (arith, l, m, e)) in
    absurd (true≢false (sym h ∙ rw (n record_at (omega arith), n most (omega arith), n (own_at + 1) (omega arith), n own_at (omega arith)) refl)))
    (λ l. l)
    (less_or_not most (length zs))

-- what is asked of the first c numbers is asked of a line that has so many
asked : (ns : List ℤ) (n c : ℕ) (P : List ℤ → Bool) → P (take c ns) ≡ P ns → eqb n c && P (take n ns) ≡ eqb n c && P ns
asked ns n c P e = ⊎_elim (λ t. ap (λ (b : Bool). eqb n c && b) (ap (λ (k : ℕ). P (take k ns)) (eqb-true n c t) ∙ e)) (λ f. rw f refl) (true_or_false (eqb n c))

pub front_call : (ns : List ℤ) (n : ℕ) → n ≤ length ns → is_call (take n ns) ≡ call_by ns n
unfolding is_call call_by
front_call ns n l =
    let of : (k : ℤ) (c : ℕ) → own_at ≤ c → eqb n c && (call (take n ns) k && flags (take n ns)) ≡ eqb n c && (call ns k && flags ns) =
    λ k c m. asked ns n c (λ (x : List ℤ). call x k && flags x)
    (rw (
      get_or-take c ns 0 (pos 0) (omega (arith, m)),
      get_or-take c ns (record_at + 1) (pos 0) (omega (arith, m)),
      get_or-take c ns (record_at + 14) (pos 0) (omega (arith, m)),
    ) refl) in
    let made = asked ns n record_at (λ (x : List ℤ). call x (pos 0)) (rw (get_or-take record_at ns 0 (pos 0) (omega arith)) refl) in
    rw (length-take-le n ns l, made, of (pos 1) most (omega arith), of (pos 2) (own_at + 1) (omega arith), of (pos 3) own_at (omega arith)) refl

-- ════ by the grammar: how many calls there are before a bad line, and whether one ends them
pub calls : (input : List ℕ) →
    ((fed_of is_call calls_after (line_due calls_start (replicate most (pos 0))) input).kept ≡ after_all calls_after calls_start (good_lines is_call input))
    × ((fed_of is_call calls_after (line_due calls_start (replicate most (pos 0))) input).begun ≡ ends_bad is_call input)
calls input = let c = comes is_call calls_after (λ (c : Calls) (ns : List ℤ). []) calls_start (replicate most (pos 0)) input room in (c.keeps, c.ends)

-- ════ the first number says which call it is: w are its bits, n is how many numbers there are, and f whether the flags are
abbrev pub call_bits : ℕ → ℕ → Bool → Bool
call_bits w n f =
    (eqb n record_at && eqb w 0) || (eqb n most && (eqb w 1 && f)) || (eqb n (own_at + 1) && (eqb w 2 && f)) || (eqb n own_at && (eqb w 3 && f))

pub by_bits : (ns : List ℤ) (n : ℕ) → SFits w32 (get_or ns 0 (pos 0)) → call_by ns n ≡ call_bits (of_z w32 (get_or ns 0 (pos 0))) n (flags ns)
unfolding call_by
by_bits ns n h = rw (same_word 0 refl h, same_word 1 refl h, same_word 2 refl h, same_word 3 refl h) refl
