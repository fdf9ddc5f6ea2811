-- When two interfaces of a log, and what calls of them leave, differ in the slots of handles alone.
use Rattle.std.specs.Prelude.{ℕ, ◌≡◌, Bool, true, ◌||◌, None, option_map}
use Rattle.ptl_types.specs.declared.handles.Handle.{Handle}
use Rattle.ni_model.specs.State.{State}
use Rattle.ni_model.specs.Tables.{Table, is_live}
use Rattle.ni_model.specs.Headers.{names_entry}
use Rattle.ni_model.specs.Refusals.{is_linked_anywhere}
use Rattle.log_words.specs.declared.call_fields.said.TheConstants.{NO_HANDLE}
use Rattle.log_answers.specs.declared.owed.Owed.{Owed}
use Rattle.log_answers.specs.declared.owed.Owed.TheVariants as owed
use Rattle.log_answers.specs.declared.owed.Sort.TheVariants.{Counter, Queue, Descriptor, Entry}
use Rattle.log_answers.specs.names.Names.{word_of}
use Rattle.log_seats.specs.Answers.{After}
use Rattle.log_seats.specs.declared.seats.Seat.{Seat}
use Rattle.slot_laws.specs.Renaming.{Renaming}
use Rattle.slot_laws.specs.Renamed.{renamed, renamed_message}
use Rattle.slot_laws.specs.Told.{HoldsOfNamed, renamed_owed, renaming_of}
use Rattle.slot_laws.specs.Naming.{NamesAgree, NamesRenamed, WordsKnown, renamed_postings}

-- the renaming leaves the handle that no thing has
pub record KeepsNone (r : Renaming) : Type 0 where
  pub ct : r.ct NO_HANDLE ≡ NO_HANDLE
  pub eq : r.eq NO_HANDLE ≡ NO_HANDLE
  pub me : r.me NO_HANDLE ≡ NO_HANDLE
  pub md : (rank : ℕ) → r.md rank NO_HANDLE ≡ NO_HANDLE

-- ---- what holds in each of the two

-- it is live in the table
abbrev pub Live : {A : Type 0} → Table A → Handle → Type 0
Live t h = is_live h t ≡ true

-- a match entry that is linked, or in which a header lies
abbrev pub is_known : Handle → State → Bool
is_known h s = is_linked_anywhere h s.indices || names_entry h s.headers.unexpected

-- it is such an entry
abbrev pub KnownIn : State → Handle → Type 0
KnownIn s h = is_known h s ≡ true

-- no two of them have one slot
abbrev pub SlotsApart : (Handle → Type 0) → Type 0
SlotsApart Known = (a b : Handle) → Known a → Known b → a.slot ≡ b.slot → a ≡ b

-- each thing has a slot of its own, only things that are live have words, and no entry has the handle that no thing has
pub record IsConsistent (s : Seat) : Type 0 where
  pub counters : WordsKnown (Live s.nic.cts) s.counters
  pub queues : WordsKnown (Live s.nic.eqs) s.queues
  pub descriptors : WordsKnown (Live s.nic.mds) s.descriptors
  pub cts : SlotsApart (Live s.nic.cts)
  pub eqs : SlotsApart (Live s.nic.eqs)
  pub mds : SlotsApart (Live s.nic.mds)
  pub entries : SlotsApart (KnownIn s.nic)
  pub nothing : KnownIn s.nic NO_HANDLE → ⊥

-- what is new has no word yet
abbrev pub IsNewIn : Owed → Seat → Type 0
IsNewIn (owed.New Counter h) s = Live s.nic.cts h × (word_of h s.counters ≡ None)
IsNewIn (owed.New Queue h) s = Live s.nic.eqs h × (word_of h s.queues ≡ None)
IsNewIn (owed.New Descriptor h) s = Live s.nic.mds h × (word_of h s.descriptors ≡ None)
IsNewIn (owed.Linked h) s = KnownIn s.nic h
IsNewIn (owed.New Entry h) s = ⊥
IsNewIn _ s = Unit {0}

-- after a call: what is new has no word yet
pub record IsConsistentAfter (x : After) : Type 0 where
  pub seat : IsConsistent x.seat
  pub is_new : IsNewIn x.owed x.seat

-- ---- the two

-- what the interfaces hold and their words name is the same, each handle renamed; of the words of match entries nothing is said
pub record AlikeButEntries (r : Renaming) (s t : Seat) : Type 0 where
  pub nic : t.nic ≡ renamed r s.nic
  pub counters : NamesRenamed r.ct s.counters t.counters
  pub queues : NamesRenamed r.eq s.queues t.queues
  pub descriptors : NamesRenamed (r.md s.nic.rank) s.descriptors t.descriptors
  pub operations : t.operations ≡ renamed_postings r.ct s.operations

-- and the words of match entries, as far as an entry is linked or a header lies in it: a word of one that is gone may be forgotten in one
-- of the two and not in the other
pub record SeatsAlike (r : Renaming) (s t : Seat) : Type 0 where
  pub near : AlikeButEntries r s t
  pub entries : NamesAgree (KnownIn s.nic) r.me s.entries t.entries

-- an entry that was linked just now has no word in either yet
abbrev pub IsNot : Owed → Handle → Type 0
IsNot (owed.Linked me) h = h ≡ me → ⊥
IsNot _ h = Unit {0}

-- it was known before the call
abbrev pub OldIn : After → Handle → Type 0
OldIn x h = KnownIn x.seat.nic h × IsNot x.owed h

-- after a call: the same answer and the same message, each handle renamed
pub record AftersAlike (r : Renaming) (x y : After) : Type 0 where
  pub near : AlikeButEntries r x.seat y.seat
  pub entries : NamesAgree (OldIn x) r.me x.seat.entries y.seat.entries
  pub owed : y.owed ≡ renamed_owed r x.seat.nic.rank x.owed
  pub sent : y.sent ≡ option_map (renamed_message r) x.sent
  pub named : HoldsOfNamed (λ h. word_of (r.me h) y.seat.entries ≡ word_of h x.seat.entries) x.owed

-- the renaming takes what is new in the one to what is new in the other
abbrev pub Matches : Renaming → ℕ → Owed → Owed → Type 0
Matches r rank (owed.New sort h) (owed.New sort' h') = sort' ≡ sort → renaming_of r rank sort h ≡ h'
Matches r rank (owed.Linked h) (owed.Linked h') = r.me h ≡ h'
Matches r rank _ _ = Unit {0}
