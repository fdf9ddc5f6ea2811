-- What is new gets its word: the interfaces stay alike in two runs, and each stays in order.
use Rattle.std.proofs.Common.{◌≡◌, ℕ, true, false, ◌||◌, List, Option, Some, None, refl, ap, ap₂, sym, subst, ◌∙◌, inl, inr, ◌⊎◌}
use Rattle.ptl_types.specs.declared.handles.Handle.{Handle}
use Rattle.ptl_types.specs.Handles.{same_handle}
use Rattle.ni_model.specs.State.{State}
use Rattle.log_answers.specs.declared.names.names.Names.{Names}
use Rattle.log_answers.specs.declared.owed.Owed.{Owed}
use Rattle.log_answers.specs.declared.owed.Owed.TheVariants as owed
use Rattle.log_answers.specs.declared.owed.Sort.TheVariants.{Counter, Queue, Descriptor, Entry}
use Rattle.log_answers.specs.names.Names.{bound, word_of}
use Rattle.log_seats.specs.Answers.{After}
use Rattle.log_seats.specs.declared.seats.Seat.{Seat}
use Rattle.log_verdict.specs.Answering.{with_new}
use Rattle.slot_laws.specs.Renaming.{IsRenaming, KeepsApart, Renaming}
use Rattle.slot_laws.specs.Renamed.{renamed}
use Rattle.slot_laws.specs.Naming.{IsRising, NamesAgree, NoneAt, WordsKnown}
use Rattle.slot_laws.specs.Told.{renamed_owed}
use Rattle.slot_laws.specs.Alike.{is_known}
use Rattle.slot_laws.specs.Alike.{AftersAlike, AlikeButEntries, IsConsistent, IsConsistentAfter, IsNewIn, IsNot, KnownIn, Live}
use Rattle.slot_laws.specs.Alike.{SeatsAlike, SlotsApart}
use Rattle.slot_laws.proofs.Appending.{is_linked_anywhere_renamed}
use Rattle.slot_laws.proofs.Headers.{names_entry_renamed}
use Rattle.slot_laws.proofs.Naming.{bound_known}
use Rattle.slot_laws.proofs.SameNames.{agree_fewer, bound_agrees, bound_renamed}
use Rattle.ni_objects.proofs.users.SumLemmas.{same-is, same-self}

pub is_known_renamed : (r : Renaming) → IsRenaming r → (h : Handle) (s : State) → is_known (r.me h) (renamed r s) ≡ is_known h s
is_known_renamed r is h s =
    ap₂ (λ a b. a || b) (is_linked_anywhere_renamed r is h s.indices) (names_entry_renamed r is h s.headers.unexpected)

-- two are one where their new handles are
pub one_renamed : (f : Handle → Handle) → KeepsApart f → (a b : Handle) → f a ≡ f b → a ≡ b
one_renamed f k a b e =
    same-is a b (sym (k.same a b) ∙ ap (λ x. same_handle x (f b)) e ∙ same-self (f b))

-- no thing of the slot of a new one has a word
none_at_new : (Known : Handle → Type 0) (n : Names) (h : Handle) → WordsKnown Known n → SlotsApart Known → Known h → word_of h n ≡ None →
    NoneAt h.slot n
none_at_new Known n h words apart known none k there =
    elim (word_of k n) as (λ o. word_of k n ≡ o → o ≡ None) [
      | None ↦ λ e. refl
      | Some w ↦ λ e. let same : k ≡ h = apart k h (words k (rw e refl)) known there in
          let gone : word_of k n ≡ None = ap (λ x. word_of x n) same ∙ none in cc
    ] refl

-- of match entries
linked_agrees : (r : Renaming) → IsRenaming r → (s t : Seat) (h : Handle) (word : Option (List ℕ)) → t.nic ≡ renamed r s.nic →
    SlotsApart (KnownIn s.nic) → SlotsApart (KnownIn t.nic) → KnownIn s.nic h →
    NamesAgree (λ k. KnownIn s.nic k × (k ≡ h → ⊥)) r.me s.entries t.entries →
    NamesAgree (KnownIn s.nic) r.me (bound h word s.entries) (bound (r.me h) word t.entries)
linked_agrees r is s t h word nic apart apart' known agree =
    let known' : (k : Handle) → KnownIn s.nic k → KnownIn t.nic (r.me k) =
    λ k there. ap (λ u. is_known (r.me k) u) nic ∙ is_known_renamed r is k s.nic ∙ there in
    agree_fewer (λ k. (KnownIn s.nic k × (k ≡ h → ⊥)) ⊎ (k ≡ h)) (KnownIn s.nic) r.me (bound h word s.entries)
    (bound (r.me h) word t.entries)
    (λ k there. elim (same_handle k h) as (λ b. same_handle k h ≡ b → (KnownIn s.nic k × (k ≡ h → ⊥)) ⊎ (k ≡ h)) [
      | true ↦ λ e. inr (same-is k h e)
      | false ↦ λ e. inl (there, λ same. let one : same_handle k h ≡ true = ap (λ x. same_handle x h) same ∙ same-self h in cc)
    ] refl)
    (bound_agrees (λ k. KnownIn s.nic k × (k ≡ h → ⊥)) r.me s.entries t.entries h word agree
    (λ k there same. there.1 (apart k h there.0 known same))
    (λ k there same. there.1 (one_renamed r.me is.me k h (apart' (r.me k) (r.me h) (known' k there.0) (known' h known) same))))

plain_alike : (r : Renaming) (s t : Seat) → AlikeButEntries r s t → NamesAgree (λ k. KnownIn s.nic k × Unit {0}) r.me s.entries t.entries →
    SeatsAlike r s t
plain_alike r s t near agree = record {
  near = near;
  entries = agree_fewer (λ k. KnownIn s.nic k × Unit {0}) (KnownIn s.nic) r.me s.entries t.entries (λ k there. (there, tt)) agree;
}

named_by : (r : Renaming) → IsRenaming r → (o : Owed) (s t : Seat) (word : Option (List ℕ)) → AlikeButEntries r s t →
    NamesAgree (λ k. KnownIn s.nic k × IsNot o k) r.me s.entries t.entries → IsConsistent s → IsConsistent t → IsNewIn o s →
    IsNewIn (renamed_owed r s.nic.rank o) t → SeatsAlike r (with_new o word s) (with_new (renamed_owed r s.nic.rank o) word t)
named_by r is (owed.New Counter h) s t word near agree here there new new' =
    plain_alike r (with_new (owed.New Counter h) word s) (with_new (owed.New Counter (r.ct h)) word t)
    (record {
      nic = near.nic;
      queues = near.queues;
      descriptors = near.descriptors;
      operations = near.operations;
      counters = bound_renamed r.ct s.counters t.counters h word is.ct near.counters
          (none_at_new (Live s.nic.cts) s.counters h here.counters here.cts new.0 new.1)
          (none_at_new (Live t.nic.cts) t.counters (r.ct h) there.counters there.cts new'.0 new'.1);
    }) agree
named_by r is (owed.New Queue h) s t word near agree here there new new' =
    plain_alike r (with_new (owed.New Queue h) word s) (with_new (owed.New Queue (r.eq h)) word t)
    (record {
      nic = near.nic;
      counters = near.counters;
      descriptors = near.descriptors;
      operations = near.operations;
      queues = bound_renamed r.eq s.queues t.queues h word is.eq near.queues
          (none_at_new (Live s.nic.eqs) s.queues h here.queues here.eqs new.0 new.1)
          (none_at_new (Live t.nic.eqs) t.queues (r.eq h) there.queues there.eqs new'.0 new'.1);
    }) agree
named_by r is (owed.New Descriptor h) s t word near agree here there new new' =
    plain_alike r (with_new (owed.New Descriptor h) word s) (with_new (owed.New Descriptor (r.md s.nic.rank h)) word t)
    (record {
      nic = near.nic;
      counters = near.counters;
      queues = near.queues;
      operations = near.operations;
      descriptors = bound_renamed (r.md s.nic.rank) s.descriptors t.descriptors h word (is.md s.nic.rank) near.descriptors
          (none_at_new (Live s.nic.mds) s.descriptors h here.descriptors here.mds new.0 new.1)
          (none_at_new (Live t.nic.mds) t.descriptors (r.md s.nic.rank h) there.descriptors there.mds new'.0 new'.1);
    }) agree
named_by r is (owed.New Entry h) s t word near agree here there new new' = absurd new
named_by r is (owed.Linked h) s t word near agree here there new new' = record {
  near = record {
    nic = near.nic;
    counters = near.counters;
    queues = near.queues;
    descriptors = near.descriptors;
    operations = near.operations;
  };
  entries = linked_agrees r is s t h word near.nic here.entries there.entries new agree;
}
named_by r is (owed.Word w) s t word near agree here there new new' = plain_alike r s t near agree
named_by r is (owed.Amount n) s t word near agree here there new new' = plain_alike r s t near agree
named_by r is (owed.Counts c) s t word near agree here there new new' = plain_alike r s t near agree
named_by r is (owed.Part start length) s t word near agree here there new new' = plain_alike r s t near agree
named_by r is owed.Message s t word near agree here there new new' = plain_alike r s t near agree
named_by r is (owed.Delivered outcome answered) s t word near agree here there new new' = plain_alike r s t near agree
named_by r is (owed.Event e) s t word near agree here there new new' = plain_alike r s t near agree
named_by r is (owed.Found u) s t word near agree here there new new' = plain_alike r s t near agree
named_by r is (owed.Taken u) s t word near agree here there new new' = plain_alike r s t near agree
named_by r is (owed.Told h) s t word near agree here there new new' = plain_alike r s t near agree
named_by r is owed.Ready s t word near agree here there new new' = plain_alike r s t near agree
named_by r is (owed.Operation n) s t word near agree here there new new' = plain_alike r s t near agree

pub named_alike : (r : Renaming) → IsRenaming r → (x y : After) (word : Option (List ℕ)) → AftersAlike r x y → IsConsistentAfter x →
    IsConsistentAfter y → SeatsAlike r (with_new x.owed word x.seat) (with_new y.owed word y.seat)
named_alike r is x y word alike here there =
    subst (λ o. SeatsAlike r (with_new x.owed word x.seat) (with_new o word y.seat)) (sym alike.owed)
    (named_by r is x.owed x.seat y.seat word alike.near alike.entries here.seat there.seat here.is_new
    (subst (λ o. IsNewIn o y.seat) alike.owed there.is_new))

-- ---- in each

known_or_new : (Known : Handle → Type 0) (h : Handle) (n : Names) → Known h → WordsKnown (λ k. Known k ⊎ (k ≡ h)) n → WordsKnown Known n
known_or_new Known h n new words k has =
    elim (words k has) [
      | inl known ↦ known
      | inr same ↦ subst Known (sym same) new
    ]

-- the words of things stand by rising key
pub record AreRising (s : Seat) : Type 0 where
  pub counters : IsRising s.counters
  pub queues : IsRising s.queues
  pub descriptors : IsRising s.descriptors

-- they do in two interfaces that are near
pub rising_here : (r : Renaming) (s t : Seat) → AlikeButEntries r s t → AreRising s
rising_here r s t near =
    record { counters = near.counters.rising; queues = near.queues.rising; descriptors = near.descriptors.rising }

pub rising_there : (r : Renaming) (s t : Seat) → AlikeButEntries r s t → AreRising t
rising_there r s t near =
    record { counters = near.counters.rising'; queues = near.queues.rising'; descriptors = near.descriptors.rising' }

ordered_by : (o : Owed) (s : Seat) (word : Option (List ℕ)) → AreRising s → IsConsistent s → IsNewIn o s → IsConsistent (with_new o word s)
ordered_by (owed.New Counter h) s word rising o new = record {
  counters = known_or_new (Live s.nic.cts) h (bound h word s.counters) new.0
      (bound_known (Live s.nic.cts) h word s.counters rising.counters o.counters);
  queues = o.queues;
  descriptors = o.descriptors;
  cts = o.cts;
  eqs = o.eqs;
  mds = o.mds;
  entries = o.entries;
  nothing = o.nothing;
}
ordered_by (owed.New Queue h) s word rising o new = record {
  counters = o.counters;
  queues = known_or_new (Live s.nic.eqs) h (bound h word s.queues) new.0
      (bound_known (Live s.nic.eqs) h word s.queues rising.queues o.queues);
  descriptors = o.descriptors;
  cts = o.cts;
  eqs = o.eqs;
  mds = o.mds;
  entries = o.entries;
  nothing = o.nothing;
}
ordered_by (owed.New Descriptor h) s word rising o new = record {
  counters = o.counters;
  queues = o.queues;
  descriptors =
      known_or_new (Live s.nic.mds) h (bound h word s.descriptors) new.0
      (bound_known (Live s.nic.mds) h word s.descriptors rising.descriptors o.descriptors);
  cts = o.cts;
  eqs = o.eqs;
  mds = o.mds;
  entries = o.entries;
  nothing = o.nothing;
}
ordered_by (owed.New Entry h) s word rising o new = absurd new
ordered_by (owed.Linked h) s word rising o new = record {
  counters = o.counters;
  queues = o.queues;
  descriptors = o.descriptors;
  cts = o.cts;
  eqs = o.eqs;
  mds = o.mds;
  entries = o.entries;
  nothing = o.nothing;
}
ordered_by (owed.Word w) s word rising o new = o
ordered_by (owed.Amount n) s word rising o new = o
ordered_by (owed.Counts c) s word rising o new = o
ordered_by (owed.Part start length) s word rising o new = o
ordered_by owed.Message s word rising o new = o
ordered_by (owed.Delivered outcome answered) s word rising o new = o
ordered_by (owed.Event e) s word rising o new = o
ordered_by (owed.Found u) s word rising o new = o
ordered_by (owed.Taken u) s word rising o new = o
ordered_by (owed.Told h) s word rising o new = o
ordered_by owed.Ready s word rising o new = o
ordered_by (owed.Operation n) s word rising o new = o

pub ordered_named : (x : After) (word : Option (List ℕ)) → AreRising x.seat → IsConsistentAfter x →
    IsConsistent (with_new x.owed word x.seat)
ordered_named x word rising after = ordered_by x.owed x.seat word rising after.seat after.is_new
