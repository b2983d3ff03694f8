-- A table against the entries, one by one.
-- Assumes nothing.
use Rattle.std.proofs.Common.{◌≡◌, ap, ℕ, zero, suc, ◌<◌, Bool, true, ◌&&◌, List, [], ◌∷◌, map, length, get_or, arith}
use Rattle.std.specs.Prelude.{ℤ, pos, leb}
use borrow.Author.Tests.{leb-true}
use Rattle.fixed.proofs.HeldLaws.{and_left, and_right}
use Rattle.settings.specs.Words.{Entry, key, no_entry}
use Rattle.names.specs.declared.Field.{Field}
use Rattle.names.specs.Names.{IsFieldOf}

-- a field and an entry by what they say
record Said : Type 0 where
  key : List ℕ
  gain : Bool
  lo : ℤ
  hi : ℤ

abbrev said : Field → Said
said f = record { key = f.key.now; gain = f.gain; lo = f.lo; hi = f.hi }

abbrev asked : Entry → Said
asked e = record { key = key e; gain = e.gain; lo = pos e.range.lo; hi = pos e.range.hi }

abbrev pub short : List Entry → Bool
short [] = true
short (e ∷ es) = leb (length (key e)) 6 && short es

pub at : (fs : List Field) (es : List Entry) (i : ℕ) (f : Field) → map said fs ≡ map asked es → short es ≡ true → i < length es
    → IsFieldOf (get_or fs i f) (get_or es i no_entry)
at [] [] i f h k l = absurd (omega (arith, l))
at [] (e ∷ es) i f h k l = cc
at (g ∷ fs) [] i f h k l = cc
at (g ∷ fs) (e ∷ es) zero f h k l =
    let s : said g ≡ asked e = cc in
    record {
      key = ap (λ s. s.key) s;
      few = omega (arith, ap (λ s. length s.key) s, leb-true (length (key e)) 6 (and_left (leb (length (key e)) 6) (short es) k));
      gain = ap (λ s. s.gain) s;
      lo = ap (λ s. s.lo) s;
      hi = ap (λ s. s.hi) s;
    }
at (g ∷ fs) (e ∷ es) (suc i) f h k l = at fs es i f (cc) (and_right (leb (length (key e)) 6) (short es) k) (omega (arith, l))
