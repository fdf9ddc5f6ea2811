-- The words of two runs that differ in the slots of handles alone: f takes each handle of the one run to that of the other.
use Rattle.std.specs.Prelude.{ℕ, true, is_some, List, map, Some, None, option_map, ◌≡◌}
use Rattle.std.specs.Cmp.Lexicographic.{slice_cmp}
use Rattle.std.specs.List.Sorted.{IsStrictlySortedBy}
use Rattle.std.specs.Map.{keys_of}
use Rattle.std.specs.Ordering.{nat_cmp}
use Rattle.ptl_types.specs.declared.handles.Handle.{Handle}
use Rattle.log_answers.specs.declared.names.names.Names.{Names}
use Rattle.log_answers.specs.declared.names.postings.Postings.{Postings}
use Rattle.log_answers.specs.declared.names.postings.Waiting.{Waiting}
use Rattle.log_answers.specs.declared.names.flights.Flight.{Flight}
use Rattle.log_answers.specs.declared.names.flights.Flights.{Flights}
use Rattle.log_answers.specs.names.Names.{names_it, thing_of, word_of}
use Rattle.slot_laws.specs.Renaming.{Renaming}
use Rattle.slot_laws.specs.Renamed.{renamed_message}

-- ---- names

-- both maps are lists by rising key
pub record IsRising (n : Names) : Type 0 where
  pub things : IsStrictlySortedBy (slice_cmp nat_cmp) (keys_of n.things)
  pub words : IsStrictlySortedBy nat_cmp (keys_of n.words)

-- a thing that a word names has that word
abbrev pub HaveTheirWords : Names → Type 0
HaveTheirWords n = (w : List ℕ) (h : Handle) → thing_of w n ≡ Some h → word_of h n ≡ Some w

-- each word names the thing of the other run, and each thing has the same word
pub record NamesRenamed (f : Handle → Handle) (n n' : Names) : Type 0 where
  pub rising : IsRising n
  pub rising' : IsRising n'
  pub things : (w : List ℕ) → thing_of w n' ≡ option_map f (thing_of w n)
  pub words : (h : Handle) → word_of (f h) n' ≡ word_of h n

-- the same as far as the things are known, for a sort whose end a log may not tell
pub record NamesAgree (Known : Handle → Type 0) (f : Handle → Handle) (n n' : Names) : Type 0 where
  pub rising : IsRising n
  pub rising' : IsRising n'
  pub worded : HaveTheirWords n
  pub worded' : HaveTheirWords n'
  pub things : (w : List ℕ) (h : Handle) → Known h → names_it (f h) (thing_of w n') ≡ names_it h (thing_of w n)
  pub words : (h : Handle) → Known h → word_of (f h) n' ≡ word_of h n

-- no thing of the slot has a word
abbrev pub NoneAt : ℕ → Names → Type 0
NoneAt slot n = (k : Handle) → k.slot ≡ slot → word_of k n ≡ None

-- no thing but this one of its slot has a word
abbrev pub OnlyAtItsSlot : Handle → Names → Type 0
OnlyAtItsSlot h n = (k : Handle) → k.slot ≡ h.slot → is_some (word_of k n) ≡ true → k ≡ h

-- only things that are known have words
abbrev pub WordsKnown : (Handle → Type 0) → Names → Type 0
WordsKnown Known n = (h : Handle) → is_some (word_of h n) ≡ true → Known h

-- ---- operations that wait

-- one of them: the counting event it waits on
abbrev pub renamed_waiting : (Handle → Handle) → Waiting → Waiting
renamed_waiting f x = record x { ct = f x.ct }

-- all of them, by number
abbrev pub renamed_postings : (Handle → Handle) → Postings → Postings
renamed_postings f p = record { numbers = p.numbers; waiting = map (λ e. (e.0, renamed_waiting f e.1)) p.waiting }

-- ---- messages under way

-- one of them: its message
abbrev pub renamed_flight : Renaming → Flight → Flight
renamed_flight r x = record x { message = renamed_message r x.message }

-- all of them, by age
abbrev pub renamed_flights : Renaming → Flights → Flights
renamed_flights r fs = record fs { messages = map (λ e. (e.0, renamed_flight r e.1)) fs.messages }
