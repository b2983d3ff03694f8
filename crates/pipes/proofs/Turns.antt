-- Turn after turn: what was read, what stands after it, and what was written of it.
-- Assumes nothing.
use Rattle.std.proofs.Common.{◌≡◌, ℕ, ◌+◌, ◌≤◌, ◌<◌, List, [], ◌++◌, length, refl, subst, sym, ap, ◌∙◌, arith, append-nil, length-append}
use mathlib.Core.Bool.{true≢false}
use Rattle.std.specs.Prelude.{Option, Bool, true, false, Result, Ok, Err, IfErr}
use Rattle.std.specs.Io.KnownBytes.{Appends, Consumes, Keeps, IsAtEnd}
use Rattle.std.proofs.KnownBytes.{Appends-nil, Appends-trans, Consumes-nil, Consumes-trans, Consumes-kept}
use Rattle.feeding.specs.Feeds.{FeedLaws}
use Rattle.pipes.specs.declared.Trouble.{Trouble}
use Rattle.pipes.specs.declared.Trouble.TheVariants.{Unread, Unsent}
use Rattle.pipes.specs.Counts.{AppendsFront, AppendsLess}
use Rattle.pipes.specs.Through.{Asked, Through, BrokenOff}
use Rattle.pipes.proofs.Fronts.{front_second, less_second}
use Rattle.std.proofs.lemmas.List.{take_all}

-- what holds whatever the error is
pub any_err : {T E : Type 0} {P : E → Type 0} (r : Result T E) → ((e : E) → P e) → IfErr r P
any_err (Ok x) h = tt
any_err (Err e) h = h e

not_both : ◌≡◌ {A = Trouble} Unread Unsent → ⊥
not_both e = true≢false (ap (λ (t : Trouble). is_read t) e)
  where
    is_read : Trouble → Bool
    is_read Unread = true
    is_read Unsent = false

module _ {S : Type 0} (feeds : S → List ℕ → S → List ℕ → Type 0) (over : S → Bool) where
  -- after turns that read a byte at least each
  pub record Fed (first last : S) (f g v w : Option (List ℕ)) (turns : ℕ) : Type 0 where
    pub eaten : List ℕ
    pub text : List ℕ
    pub read : Consumes f g eaten
    pub fed : feeds first eaten last text
    pub sent : Appends v w text
    pub many : turns ≤ length eaten
    -- it goes on only while something is looked at
    pub looked : over last ≡ true → eaten ≡ []

  module _ (laws : FeedLaws feeds) where
    pub no_turn : (first : S) (f v : Option (List ℕ)) → Fed first first f f v v 0
    no_turn first f v = record {
      eaten = [];
      text = [];
      read = Consumes-nil f;
      fed = laws.none first;
      sent = Appends-nil v;
      many = omega arith;
      looked = λ e. refl;
    }

    -- one turn more, which reads a chunk
    pub turn_more : {first last : S} (next : S) {f g v w : Option (List ℕ)} (h x : Option (List ℕ)) {turns : ℕ} (t : Fed first last f g v w turns) (chunk text : List ℕ)
        → 0 < length chunk → Consumes g h chunk → feeds last chunk next text → Appends w x text → over next ≡ false → Fed first next f h v x (turns + 1)
    turn_more {first} {last} next {f} {g} {v} {w} h x t chunk text some read fed sent on = record {
      eaten = t.eaten ++ chunk;
      text = t.text ++ text;
      read = Consumes-trans f g h _ _ t.read read;
      fed = laws.more first last next t.eaten chunk t.text text t.fed fed;
      sent = Appends-trans v w x _ _ t.sent sent;
      many = omega (arith, t.many, some, length-append t.eaten chunk);
      looked = λ e. absurd (true≢false (sym e ∙ on));
    }

  -- ════ the end
  module _ {first last : S} {f g v w : Option (List ℕ)} {turns : ℕ} (room : ℕ) (t : Fed first last f g v w turns) where
    -- no byte was read since
    pub asked : Asked feeds over room first t.eaten
    asked = record {
      front = t.eaten;
      chunk = [];
      whole = sym (append-nil t.eaten);
      few = omega arith;
      before = last;
      answered = t.text;
      fed = t.fed;
      looked = t.looked;
    }

    -- a chunk was
    abbrev pub asked_more : (chunk : List ℕ) → length chunk ≤ room → Asked feeds over room first (t.eaten ++ chunk)
    asked_more chunk few = record {
      front = t.eaten;
      chunk = chunk;
      whole = refl;
      few = few;
      before = last;
      answered = t.text;
      fed = t.fed;
      looked = t.looked;
    }

    -- so many turns read more bytes than are promised of
    pub turns_end : 18446744073709551615 ≤ turns → Through feeds over room first last f g v w
    turns_end h = record {
      eaten = t.eaten;
      text = t.text;
      read = t.read;
      fed = t.fed;
      sent = t.sent;
      ends = λ e l. absurd (omega (arith, l, h, t.many));
      asked = asked;
    }

    -- a read that brought nothing left the input at its end
    pub input_ends : (h : Option (List ℕ)) → Consumes g h [] → IsAtEnd h → Through feeds over room first last f h v w
    input_ends h read end = record {
      eaten = t.eaten;
      text = t.text;
      read = subst (Consumes f h) (append-nil t.eaten) (Consumes-trans f g h _ _ t.read read);
      fed = t.fed;
      sent = t.sent;
      ends = λ e l. end;
      asked = asked;
    }

    -- a chunk more, and nothing more is looked at
    pub over_ends : FeedLaws feeds → (next : S) (h x : Option (List ℕ)) (chunk text : List ℕ) → length chunk ≤ room → Consumes g h chunk
        → feeds last chunk next text → Appends w x text → over next ≡ true → Through feeds over room first next f h v x
    over_ends laws next h x chunk text few read fed sent stop = record {
      eaten = t.eaten ++ chunk;
      text = t.text ++ text;
      read = Consumes-trans f g h _ _ t.read read;
      fed = laws.more first last next t.eaten chunk t.text text t.fed fed;
      sent = Appends-trans v w x _ _ t.sent sent;
      ends = λ e l. absurd (true≢false (sym stop ∙ e));
      asked = asked_more chunk few;
    }

    -- ════ where a read or a write failed
    pub unread : (why : Trouble) → why ≡ Unread → (h : Option (List ℕ)) → Keeps g h → BrokenOff feeds over room why first f h v w
    unread why is h kept = record {
      eaten = t.eaten;
      text = t.text;
      last = last;
      read = Consumes-kept f g h _ t.read kept;
      fed = t.fed;
      asked = asked;
      sent = (length t.text, omega arith, subst (Appends v w) (sym (take_all (length t.text) t.text (omega arith))) t.sent);
      all_sent = λ e. t.sent;
      cut_off = λ e. absurd (not_both (sym is ∙ e));
    }

    pub unsent : FeedLaws feeds → (why : Trouble) → why ≡ Unsent → (next : S) (h x : Option (List ℕ)) (chunk text : List ℕ) → length chunk ≤ room
        → Consumes g h chunk → feeds last chunk next text → AppendsFront w x text (length text) → AppendsLess w x text (length text)
        → BrokenOff feeds over room why first f h v x
    unsent laws why is next h x chunk text few read fed part less = record {
      eaten = t.eaten ++ chunk;
      text = t.text ++ text;
      last = next;
      read = Consumes-trans f g h _ _ t.read read;
      fed = laws.more first last next t.eaten chunk t.text text t.fed fed;
      asked = asked_more chunk few;
      sent = front_second v w x t.text text t.sent part;
      all_sent = λ e. absurd (not_both (sym e ∙ is));
      cut_off = λ e. less_second v w x t.text text t.sent less;
    }
