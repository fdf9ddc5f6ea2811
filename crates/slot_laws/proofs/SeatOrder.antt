-- What calls of entries, starts, firings, writes and messages leave: things of a slot each, and words of those that are live alone.
use Rattle.std.proofs.Common.{◌≡◌, ℕ, zero, suc, Bool, true, false, ◌||◌, ◌==◌, List, [], ◌∷◌, ◌++◌, Option, Some, None, Result, Ok, Err}
use Rattle.std.proofs.Common.{if◌then◌else◌, refl, ap, sym, subst, ◌∙◌, is_some, codes, length}
use Rattle.std.specs.Prelude.{slice_set}
use Rattle.std.proofs.lemmas.Bool.{and_parts, or_left, or_right}
use Rattle.ptl_types.specs.declared.handles.Handle.{Handle}
use Rattle.ptl_types.specs.declared.entries.Entry.{Entry}
use Rattle.ptl_types.specs.declared.entries.List.{List as EntryList}
use Rattle.ptl_types.specs.declared.entries.List.TheVariants.{Priority, Overflow}
use Rattle.ptl_types.specs.declared.entries.UnexpectedHeader.{UnexpectedHeader}
use Rattle.ptl_types.specs.declared.calls.Appended.{Appended}
use Rattle.ptl_types.specs.declared.calls.Appended.TheVariants.{Linked as IsLinked, Consumed}
use Rattle.ptl_types.specs.declared.calls.NiFault.{NiFault}
use Rattle.ptl_types.specs.declared.calls.TriggeredOp.{TriggeredOp}
use Rattle.ptl_types.specs.Handles.{same_handle}
use Rattle.ptl_types.specs.Messages.{Sent}
use Rattle.ni_model.specs.declared.Linked.{Linked}
use Rattle.ni_model.specs.declared.IndexedHeader.{IndexedHeader}
use Rattle.ni_model.specs.Lists.{Index, index_at, is_linked}
use Rattle.ni_model.specs.Headers.{found_in, names_entry, oldest}
use Rattle.ni_model.specs.Refusals.{is_linked_anywhere, is_linked_in}
use Rattle.ni_model.specs.Arrive.{Parts, Side}
use Rattle.ni_model.specs.Append.{append, append_fault, append_once, append_priority, fresh, is_allocated, link_side, linked_as, linked_at}
use Rattle.ni_model.specs.Append.{next_handle, take_all}
use Rattle.ni_model.specs.State.{State, parts_of, side_of, with_parts}
use Rattle.ni_model.specs.Ready.{fired, is_ready}
use Rattle.ni_model.specs.Calls as calls
use Rattle.ni_model.specs.Calls.{Done, ends_by, entry_slot, slot_in}
use Rattle.guarded_ni.specs.declared.faults.Misuse.{Misuse}
use Rattle.guarded_ni.specs.declared.faults.Misuse.TheVariants as misuses
use Rattle.guarded_ni.specs.Misuses.{start_misuse, unless}
use Rattle.log_answers.specs.declared.owed.Owed.{Owed}
use Rattle.log_answers.specs.declared.owed.Owed.TheVariants as owed
use Rattle.log_answers.specs.declared.owed.Sort.TheVariants.{Entry as Me}
use Rattle.log_answers.specs.declared.names.names.Names.{Names}
use Rattle.log_seats.specs.Answers.{After, after, appended, arrived, cancels, fault_word, fires_as, fires_at, found, frees, gone}
use Rattle.log_seats.specs.Answers.{message_owed, misuse_word, ok, outside, posts, says, starts, tells, told, unless_misused}
use Rattle.log_seats.specs.Answers.{with_posted, without_waiting, writes}
use Rattle.log_seats.specs.Seats.{with_nic}
use Rattle.log_seats.specs.declared.seats.Seat.{Seat}
use Rattle.initiator_engine.proofs.Starting.{need-test}
use Rattle.slot_laws.specs.Naming.{WordsKnown}
use Rattle.slot_laws.proofs.terms.Lasting.{Keeps, Lasts}
use Rattle.slot_laws.specs.Alike.{is_known}
use Rattle.ni_model.specs.Calls.{header_slot}
use Rattle.slot_laws.proofs.Nothing.{NothingKnown, append_nothing, keeps_nothing}
use Rattle.slot_laws.specs.Alike.{IsNewIn, IsConsistent, IsConsistentAfter, KnownIn, Live, SlotsApart}
use Rattle.slot_laws.proofs.terms.Counting.{makes_none}
use Rattle.slot_laws.proofs.Lasting.{either_more, lasts_self}
use Rattle.slot_laws.proofs.Keeping.{AppendKeeps, LinksParts, append_keeps, linked_set}
use Rattle.slot_laws.proofs.Leaving.{ct_cancel_keeps, fired_keeps, keeps_self, me_search_keeps, me_unlink_keeps, pt_alloc_keeps}
use Rattle.slot_laws.proofs.Leaving.{pt_free_keeps, start_keeps, target_keeps, triggered_keeps, write_memory_keeps}
use Rattle.ni_objects.proofs.users.SumLemmas.{same-is, same-self}

-- ---- an answer that tells of no new thing

pub none_new : (o : Owed) (s : Seat) → makes_none o ≡ true → IsNewIn o s
none_new (owed.Word w) s e = tt
none_new (owed.Amount n) s e = tt
none_new (owed.Counts c) s e = tt
none_new (owed.Part start n) s e = tt
none_new (owed.New sort h) s e = cc
none_new (owed.Linked h) s e = cc
none_new owed.Message s e = tt
none_new (owed.Delivered o answers) s e = tt
none_new (owed.Event x) s e = tt
none_new (owed.Found u) s e = tt
none_new (owed.Taken u) s e = tt
none_new (owed.Told h) s e = tt
none_new owed.Ready s e = tt
none_new (owed.Operation t) s e = tt

pub told_none : {A : Type 0} (f : A → Owed) → ((x : A) → makes_none (f x) ≡ true) → (r : Result A NiFault) → makes_none (told f r) ≡ true
told_none f none (Ok x) = none x
told_none f none (Err fault) = refl

-- ---- tables that last, and words

pub words_more : (Known Known' : Handle → Type 0) (n : Names) → ((h : Handle) → Known h → Known' h) → WordsKnown Known n →
    WordsKnown Known' n
words_more Known Known' n more words h has = more h (words h has)

pub apart_fewer : (Known Known' : Handle → Type 0) → ((h : Handle) → Known' h → Known h) → SlotsApart Known → SlotsApart Known'
apart_fewer Known Known' fewer apart a b known known' same = apart a b (fewer a known) (fewer b known') same

-- with the same words of counting events, queues and descriptors
pub record SameWords (s t : Seat) : Type 0 where
  pub counters : t.counters ≡ s.counters
  pub queues : t.queues ≡ s.queues
  pub descriptors : t.descriptors ≡ s.descriptors

pub ordered_lasting : (s t : Seat) → SameWords s t → Lasts s.nic.cts t.nic.cts → Lasts s.nic.eqs t.nic.eqs → Lasts s.nic.mds t.nic.mds →
    SlotsApart (KnownIn t.nic) → NothingKnown t.nic → IsConsistent s → IsConsistent t
ordered_lasting s t same cts eqs mds apart nothing o = record {
  counters = rw same.counters (words_more (Live s.nic.cts) (Live t.nic.cts) s.counters (λ h is. cts.live h ∙ is) o.counters);
  queues = rw same.queues (words_more (Live s.nic.eqs) (Live t.nic.eqs) s.queues (λ h is. eqs.live h ∙ is) o.queues);
  descriptors =
      rw same.descriptors (words_more (Live s.nic.mds) (Live t.nic.mds) s.descriptors (λ h is. mds.live h ∙ is) o.descriptors);
  cts = apart_fewer (Live s.nic.cts) (Live t.nic.cts) (λ h is. sym (cts.live h) ∙ is) o.cts;
  eqs = apart_fewer (Live s.nic.eqs) (Live t.nic.eqs) (λ h is. sym (eqs.live h) ∙ is) o.eqs;
  mds = apart_fewer (Live s.nic.mds) (Live t.nic.mds) (λ h is. sym (mds.live h) ∙ is) o.mds;
  entries = apart;
  nothing = nothing;
}

-- ---- a call that makes and frees nothing in these tables

pub record Stays (s : Seat) (x : After) : Type 0 where
  pub keeps : Keeps s.nic x.seat.nic
  pub words : SameWords s x.seat
  pub none : makes_none x.owed ≡ true

pub stays_ordered : (s : Seat) (x : After) → Stays s x → IsConsistent s → IsConsistentAfter x
stays_ordered s x stays o = record {
  seat = ordered_lasting s x.seat stays.words stays.keeps.cts stays.keeps.eqs stays.keeps.mds
      (apart_fewer (KnownIn s.nic) (KnownIn x.seat.nic) stays.keeps.known o.entries)
      (keeps_nothing s.nic x.seat.nic stays.keeps o.nothing) o;
  is_new = none_new x.owed x.seat stays.none;
}

same_words : (s : Seat) → SameWords s s
same_words s = record { counters = refl; queues = refl; descriptors = refl }

-- a call that ends so
pub ended_stays : (s : Seat) (u x : After) → x ≡ u → Stays s u → Stays s x
ended_stays s u x is stays = subst (Stays s) (sym is) stays

pub ended_ordered : (u x : After) → x ≡ u → IsConsistentAfter u → IsConsistentAfter x
ended_ordered u x is ordered = subst IsConsistentAfter (sym is) ordered

-- it asks alone
pub asks_stays : (s : Seat) (o : Owed) → makes_none o ≡ true → Stays s (after s o)
asks_stays s o none = record { keeps = keeps_self s.nic; words = same_words s; none = none }

pub misused_stays : (m : Option Misuse) (s : Seat) (x : After) → Stays s x → Stays s (unless_misused m s x)
misused_stays None s x stays = stays
misused_stays (Some f) s x stays = asks_stays s (says (misuse_word f)) refl

pub tells_stays : {A : Type 0} (f : A → Owed) (d : Done (Result A NiFault)) (s : Seat) → Keeps s.nic d.state →
    ((x : A) → makes_none (f x) ≡ true) → Stays s (tells f d s)
tells_stays f d s keeps none = record {
  keeps = keeps;
  words = record { counters = refl; queues = refl; descriptors = refl };
  none = told_none f none d.answer;
}

-- ---- portal table indices, and entries that are searched

pub pt_alloc_stays : (pt : ℕ) (eq : Option Handle) (s : Seat) → Stays s (tells ok (calls.pt_alloc pt eq s.nic) s)
pt_alloc_stays pt eq s = tells_stays ok (calls.pt_alloc pt eq s.nic) s (pt_alloc_keeps pt eq s.nic) (λ u. refl)

pub pt_free_stays : (pt : ℕ) (s : Seat) → Stays s (tells ok (calls.pt_free pt s.nic) s)
pt_free_stays pt s = tells_stays ok (calls.pt_free pt s.nic) s (pt_free_keeps pt s.nic) (λ u. refl)

pub found_none : (o : Option UnexpectedHeader) → makes_none (found o) ≡ true
found_none None = refl
found_none (Some u) = refl

pub me_search_stays : (pt : ℕ) (e : Entry) (delete : Bool) (s : Seat) → Stays s (tells found (calls.me_search pt e delete s.nic) s)
me_search_stays pt e delete s =
    tells_stays found (calls.me_search pt e delete s.nic) s (me_search_keeps pt e delete s.nic) found_none

-- an entry is unlinked: its word goes
gone_stays : (me : Handle) (d : Done (Result (Unit {0}) NiFault)) (s : Seat) (r : Result (Unit {0}) NiFault) → Keeps s.nic d.state →
    Stays s (after (gone Me me r (with_nic d.state s)) (told ok r))
gone_stays me d s (Ok u) keeps =
    record { keeps = keeps; words = record { counters = refl; queues = refl; descriptors = refl }; none = refl }
gone_stays me d s (Err fault) keeps =
    record { keeps = keeps; words = record { counters = refl; queues = refl; descriptors = refl }; none = refl }

pub me_unlink_stays : (me : Handle) (s : Seat) → Stays s (frees Me me (calls.me_unlink me s.nic) s)
me_unlink_stays me s =
    let d = calls.me_unlink me s.nic in
    gone_stays me d s d.answer (me_unlink_keeps me s.nic)

-- ---- operations

message_none : (o : Option Sent) → makes_none (message_owed o) ≡ true
message_none None = refl
message_none (Some m) = refl

-- the message that was sent is no part of it
sent_stays : (s : Seat) (x : After) (sent : Option Sent) → Stays s x → Stays s (record x { sent = sent })
sent_stays s x sent stays = record { keeps = stays.keeps; words = stays.words; none = stays.none }

pub starts_stays : (d : TriggeredOp) (s : Seat) → Stays s (starts d s)
starts_stays d s =
    let r = calls.start d s.nic in
    misused_stays (start_misuse d s.nic.ranks s.nic.limits) s _
    (sent_stays s (tells message_owed r s) _ (tells_stays message_owed r s (start_keeps d s.nic) message_none))

posted_stays : (word : List ℕ) (ct : Handle) (nic : State) (s : Seat) (r : Result ℕ NiFault) → Keeps s.nic nic →
    Stays s (after (with_posted word ct r (with_nic nic s)) (told (λ t. says (codes "ok")) r))
posted_stays word ct nic s (Ok t) keeps =
    record { keeps = keeps; words = record { counters = refl; queues = refl; descriptors = refl }; none = refl }
posted_stays word ct nic s (Err fault) keeps =
    record { keeps = keeps; words = record { counters = refl; queues = refl; descriptors = refl }; none = refl }

pub posts_stays : (word : List ℕ) (d : TriggeredOp) (ct : Handle) (threshold : ℕ) (s : Seat) → Stays s (posts word d ct threshold s)
posts_stays word d ct threshold s =
    let r = calls.triggered d ct threshold s.nic in
    misused_stays (start_misuse d s.nic.ranks s.nic.limits) s _
    (posted_stays word ct r.state s r.answer (triggered_keeps d ct threshold s.nic))

fires_as_stays : (t : ℕ) (s : Seat) → Stays s (fires_as t (fired s.nic t) s)
fires_as_stays t s = record {
  keeps = fired_keeps s.nic t;
  words = record { counters = refl; queues = refl; descriptors = refl };
  none = message_none (fired s.nic t).message;
}

pub fires_at_stays : (o : Option ℕ) (s : Seat) → Stays s (fires_at o s)
fires_at_stays None s = asks_stays s (says (misuse_word misuses.NotReady)) refl
fires_at_stays (Some t) s = misused_stays (unless (is_ready s.nic t) misuses.NotReady) s _ (fires_as_stays t s)

cancelled_stays : (ct : Handle) (nic : State) (s : Seat) (r : Result ℕ NiFault) → Keeps s.nic nic →
    Stays s (after (without_waiting ct r (with_nic nic s)) (told (λ n. owed.Amount n) r))
cancelled_stays ct nic s (Ok n) keeps =
    record { keeps = keeps; words = record { counters = refl; queues = refl; descriptors = refl }; none = refl }
cancelled_stays ct nic s (Err fault) keeps =
    record { keeps = keeps; words = record { counters = refl; queues = refl; descriptors = refl }; none = refl }

pub cancels_stays : (ct : Handle) (s : Seat) → Stays s (cancels ct s)
cancels_stays ct s =
    let r = calls.ct_cancel ct s.nic in
    cancelled_stays ct r.state s r.answer (ct_cancel_keeps ct s.nic)

-- ---- the region, and a message

pub writes_stays : (start : ℕ) (bytes : List ℕ) (s : Seat) → Stays s (writes start bytes s)
writes_stays start bytes s =
    misused_stays (outside s.nic start (length bytes)) s _ (record {
      keeps = write_memory_keeps start bytes s.nic;
      words = record { counters = refl; queues = refl; descriptors = refl };
      none = refl;
    })

pub arrived_stays : (m : Sent) (s : Seat) → Stays s (arrived m s)
arrived_stays m s =
    misused_stays (unless (m.header.target == s.nic.rank) misuses.Elsewhere) s _ (record {
      keeps = target_keeps s.nic m;
      words = record { counters = refl; queues = refl; descriptors = refl };
      none = refl;
    })

-- ---- so each of these leaves an interface in order

pub pt_alloc_ordered : (pt : ℕ) (eq : Option Handle) (s : Seat) → IsConsistent s →
    IsConsistentAfter (tells ok (calls.pt_alloc pt eq s.nic) s)
pt_alloc_ordered pt eq s = stays_ordered s _ (pt_alloc_stays pt eq s)

pub pt_free_ordered : (pt : ℕ) (s : Seat) → IsConsistent s → IsConsistentAfter (tells ok (calls.pt_free pt s.nic) s)
pt_free_ordered pt s = stays_ordered s _ (pt_free_stays pt s)

pub me_search_ordered : (pt : ℕ) (e : Entry) (delete : Bool) (s : Seat) → IsConsistent s →
    IsConsistentAfter (tells found (calls.me_search pt e delete s.nic) s)
me_search_ordered pt e delete s = stays_ordered s _ (me_search_stays pt e delete s)

pub me_unlink_ordered : (me : Handle) (s : Seat) → IsConsistent s → IsConsistentAfter (frees Me me (calls.me_unlink me s.nic) s)
me_unlink_ordered me s = stays_ordered s _ (me_unlink_stays me s)

pub starts_ordered : (d : TriggeredOp) (s : Seat) → IsConsistent s → IsConsistentAfter (starts d s)
starts_ordered d s = stays_ordered s _ (starts_stays d s)

pub posts_ordered : (word : List ℕ) (d : TriggeredOp) (ct : Handle) (threshold : ℕ) (s : Seat) → IsConsistent s →
    IsConsistentAfter (posts word d ct threshold s)
posts_ordered word d ct threshold s = stays_ordered s _ (posts_stays word d ct threshold s)

pub fires_at_ordered : (o : Option ℕ) (s : Seat) → IsConsistent s → IsConsistentAfter (fires_at o s)
fires_at_ordered o s = stays_ordered s _ (fires_at_stays o s)

pub cancels_ordered : (ct : Handle) (s : Seat) → IsConsistent s → IsConsistentAfter (cancels ct s)
cancels_ordered ct s = stays_ordered s _ (cancels_stays ct s)

pub writes_ordered : (start : ℕ) (bytes : List ℕ) (s : Seat) → IsConsistent s → IsConsistentAfter (writes start bytes s)
writes_ordered start bytes s = stays_ordered s _ (writes_stays start bytes s)

pub arrived_ordered : (m : Sent) (s : Seat) → IsConsistent s → IsConsistentAfter (arrived m s)
arrived_ordered m s = stays_ordered s _ (arrived_stays m s)

-- ---- an entry is appended

-- a linked entry has its slot
linked_slot : (h : Handle) (xs : List Linked) → is_linked h xs ≡ true → slot_in h.slot xs ≡ true
linked_slot h [] e = e
linked_slot h (x ∷ xs) e =
    either_more (same_handle x.handle h) (is_linked h xs) (x.handle.slot == h.slot) (slot_in h.slot xs)
    (λ same. (and_parts (x.handle.stamp == h.stamp) (x.handle.slot == h.slot) same).1) (linked_slot h xs) e

entry_slot_linked : (h : Handle) (is : List (Option Index)) → is_linked_anywhere h is ≡ true → entry_slot is h.slot ≡ true
entry_slot_linked h [] e = e
entry_slot_linked h (None ∷ is) e = entry_slot_linked h is e
entry_slot_linked h (Some i ∷ is) e =
    either_more (is_linked h i.priority || is_linked h i.overflow) (is_linked_anywhere h is)
    (slot_in h.slot i.priority || slot_in h.slot i.overflow) (entry_slot is h.slot)
    (either_more (is_linked h i.priority) (is_linked h i.overflow) (slot_in h.slot i.priority) (slot_in h.slot i.overflow)
    (linked_slot h i.priority) (linked_slot h i.overflow)) (entry_slot_linked h is) e

header_slot_named : (h : Handle) (hs : List IndexedHeader) → names_entry h hs ≡ true → header_slot hs h.slot ≡ true
header_slot_named h [] e = e
header_slot_named h (a ∷ hs) e =
    either_more (same_handle a.header.entry h) (names_entry h hs) (a.header.entry.slot == h.slot) (header_slot hs h.slot)
    (λ same. (and_parts (a.header.entry.stamp == h.stamp) (a.header.entry.slot == h.slot) same).1) (header_slot_named h hs) e

-- in a list that another entry came to
push_other : (h : Handle) (x : Linked) (xs : List Linked) → same_handle x.handle h ≡ false → is_linked h (xs ++ x ∷ []) ≡ true →
    is_linked h xs ≡ true
push_other h x [] apart e = rw apart at e
push_other h x (y ∷ ys) apart e =
    either_more (same_handle y.handle h) (is_linked h (ys ++ x ∷ [])) (same_handle y.handle h) (is_linked h ys) (λ here. here)
    (push_other h x ys apart) e

push_itself : (x : Linked) (xs : List Linked) → is_linked x.handle (xs ++ x ∷ []) ≡ true
push_itself x [] = or_left (same_handle x.handle x.handle) false (same-self x.handle)
push_itself x (y ∷ ys) = or_right (same_handle y.handle x.handle) (is_linked x.handle (ys ++ x ∷ [])) (push_itself x ys)

linked_at_other : (list : EntryList) (x : Linked) (h : Handle) → same_handle x.handle h ≡ false → (o : Option Index) →
    is_linked_in h (linked_at list x o) ≡ true → is_linked_in h o ≡ true
linked_at_other list x h apart None e = e
linked_at_other Priority x h apart (Some i) e =
    either_more (is_linked h (i.priority ++ x ∷ [])) (is_linked h i.overflow) (is_linked h i.priority) (is_linked h i.overflow)
    (push_other h x i.priority apart) (λ is. is) e
linked_at_other Overflow x h apart (Some i) e =
    either_more (is_linked h i.priority) (is_linked h (i.overflow ++ x ∷ [])) (is_linked h i.priority) (is_linked h i.overflow)
    (λ is. is) (push_other h x i.overflow apart) e

linked_at_itself : (list : EntryList) (x : Linked) (o : Option Index) → is_some o ≡ true → is_linked_in x.handle (linked_at list x o) ≡ true
linked_at_itself list x None e = e
linked_at_itself Priority x (Some i) e =
    or_left (is_linked x.handle (i.priority ++ x ∷ [])) (is_linked x.handle i.overflow) (push_itself x i.priority)
linked_at_itself Overflow x (Some i) e =
    or_right (is_linked x.handle i.priority) (is_linked x.handle (i.overflow ++ x ∷ [])) (push_itself x i.overflow)

-- an index that is replaced holds what the new one does
set_linked : (h : Handle) (pt : ℕ) (o : Option Index) (is : List (Option Index)) → is_some (index_at pt is) ≡ true →
    is_linked_in h o ≡ true → is_linked_anywhere h (slice_set is pt o) ≡ true
set_linked h pt o [] there e = cc
set_linked h zero o (i ∷ is) there e = or_left (is_linked_in h o) (is_linked_anywhere h is) e
set_linked h (suc pt) o (i ∷ is) there e =
    or_right (is_linked_in h i) (is_linked_anywhere h (slice_set is pt o)) (set_linked h pt o is there e)

-- the new entry is linked, and else those that were
pub record LinksOne (h : Handle) (p q : Side) : Type 0 where
  pub there : is_linked_anywhere h q.indices ≡ true
  pub older : (k : Handle) → same_handle h k ≡ false → is_linked_anywhere k q.indices ≡ true → is_linked_anywhere k p.indices ≡ true

link_links : (slot pt : ℕ) (list : EntryList) (e : Entry) (s : Side) → is_allocated pt s ≡ true →
    LinksOne (next_handle slot s) s (link_side slot pt list e s)
link_links slot pt list e s allocated =
    let new = fresh (next_handle slot s) e in
    record {
      there =
          set_linked new.handle pt (linked_at list new (index_at pt s.indices)) s.indices allocated
          (linked_at_itself list new (index_at pt s.indices) allocated);
      older = λ k apart.
          linked_set k pt (linked_at list new (index_at pt s.indices)) s.indices
          (linked_at_other list new k apart (index_at pt s.indices));
    }

abbrev pub AppendLinks : Side → Side → Appended → Type 0
AppendLinks p q (IsLinked h) = LinksOne h p q
AppendLinks p q (Consumed u) = Unit {0}

once_links : (slot pt : ℕ) (e : Entry) (p : Parts) (o : Option IndexedHeader) → is_allocated pt p.side ≡ true →
    AppendLinks p.side (append_once slot pt e p o).parts.side (append_once slot pt e p o).appended
once_links slot pt e p None allocated = link_links slot pt Priority e p.side allocated
once_links slot pt e p (Some a) allocated = tt

priority_links : (slot pt : ℕ) (e : Entry) (p : Parts) → is_allocated pt p.side ≡ true →
    AppendLinks p.side (append_priority slot pt e p).parts.side (append_priority slot pt e p).appended
priority_links slot pt e p allocated =
    let once = append_once slot pt e p (oldest pt e p.side.headers.unexpected) in
    let all = linked_as slot pt Priority e (found_in pt e p.side.headers.unexpected) (take_all pt e p) in
    elim e.use_once as (λ b. AppendLinks p.side (if b then once else all).parts.side (if b then once else all).appended) [
      | true ↦ once_links slot pt e p (oldest pt e p.side.headers.unexpected) allocated
      | false ↦
          let linked : LinksOne (next_handle slot (take_all pt e p).side) (take_all pt e p).side all.parts.side =
          link_links slot pt Priority e (take_all pt e p).side allocated in
          record { there = linked.there; older = linked.older }
    ]

append_links : (slot pt : ℕ) (list : EntryList) (e : Entry) (p : Parts) → is_allocated pt p.side ≡ true →
    AppendLinks p.side (append slot pt list e p).parts.side (append slot pt list e p).appended
unfolding append
append_links slot pt Priority e p allocated = priority_links slot pt e p allocated
append_links slot pt Overflow e p allocated = link_links slot pt Overflow e p.side allocated

-- ---- so each has a slot of its own still, where that of the new one is free

-- what has the slot of the new entry is it
module _ (s t : State) (h : Handle) (links : LinksOne h (side_of s) (side_of t)) (free : entry_slot s.indices h.slot ≡ false)
    (left : header_slot t.headers.unexpected h.slot ≡ false) where
  taken_by : (k : Handle) → k.slot ≡ h.slot → same_handle h k ≡ false → (b : Bool) → is_linked_anywhere k t.indices ≡ b →
      (b || names_entry k t.headers.unexpected) ≡ true → k ≡ h
  taken_by k same apart true linked is =
      let old : entry_slot s.indices k.slot ≡ true = entry_slot_linked k s.indices (links.older k apart linked) in
      let here : entry_slot s.indices h.slot ≡ true = rw same at old in
      cc
  taken_by k same apart false linked is =
      let lies : header_slot t.headers.unexpected k.slot ≡ true = header_slot_named k t.headers.unexpected is in
      let here : header_slot t.headers.unexpected h.slot ≡ true = rw same at lies in
      cc

  alone_there : (k : Handle) → KnownIn t k → k.slot ≡ h.slot → k ≡ h
  alone_there k known same =
      elim (same_handle h k) as (λ b. same_handle h k ≡ b → k ≡ h) [
        | true ↦ λ e. sym (same-is h k e)
        | false ↦ λ e. taken_by k same e (is_linked_anywhere k t.indices) refl known
      ] refl

  appended_apart : ((k : Handle) → KnownIn t k → (same_handle h k || is_known k s) ≡ true) → SlotsApart (KnownIn s) → SlotsApart (KnownIn t)
  appended_apart before apart a b known known' same =
      elim (same_handle h a) as (λ c. same_handle h a ≡ c → (c || is_known a s) ≡ true → a ≡ b) [
        | true ↦ λ e is.
            let first : h ≡ a = same-is h a e in
            let second : b ≡ h = alone_there b known' (sym same ∙ ap (λ (x : Handle). x.slot) (sym first)) in
            sym first ∙ sym second
        | false ↦ λ e is.
            elim (same_handle h b) as (λ c. same_handle h b ≡ c → (c || is_known b s) ≡ true → a ≡ b) [
              | true ↦ λ f is'.
                  let second : h ≡ b = same-is h b f in
                  alone_there a known (same ∙ ap (λ (x : Handle). x.slot) (sym second)) ∙ second
              | false ↦ λ f is'. apart a b is is' same
            ] refl (before b known')
      ] refl (before a known)

-- by the answer
appended_ordered : (slot : ℕ) (s : Seat) (p : Parts) (x : Appended) → AppendKeeps slot (parts_of s.nic) p x →
    AppendLinks (side_of s.nic) p.side x → entry_slot s.nic.indices slot ≡ false → header_slot p.side.headers.unexpected slot ≡ false →
    NothingKnown (with_parts p s.nic) → IsConsistent s → IsConsistentAfter (after (with_nic (with_parts p s.nic) s) (appended x))
appended_ordered slot s p (IsLinked h) k links free left nothing o =
    let l : LinksParts slot (parts_of s.nic) p = k.1 in
    let t : State = with_parts p s.nic in
    let at_slot : h.slot ≡ slot = ap (λ (x : Handle). x.slot) k.0 in
    record {
      seat =
          ordered_lasting s (with_nic t s) (record { counters = refl; queues = refl; descriptors = refl }) l.cts l.eqs
          (lasts_self s.nic.mds)
          (appended_apart s.nic t h (record { there = links.there; older = links.older }) (rw at_slot free) (rw at_slot left)
          (λ k' is. ap (λ (x : Handle). same_handle x k' || is_known k' s.nic) k.0 ∙ l.known k' is) o.entries) nothing o;
      is_new = or_left (is_linked_anywhere h t.indices) (names_entry h t.headers.unexpected) links.there;
    }
appended_ordered slot s p (Consumed u) k links free left nothing o = record {
  seat =
      ordered_lasting s (with_nic (with_parts p s.nic) s) (record { counters = refl; queues = refl; descriptors = refl }) k.cts k.eqs
      (lasts_self s.nic.mds) (apart_fewer (KnownIn s.nic) (KnownIn (with_parts p s.nic)) k.known o.entries) nothing o;
  is_new = tt;
}

append_ended : (slot pt : ℕ) (list : EntryList) (e : Entry) (s : Seat) (o : Option NiFault) → append_fault pt e (parts_of s.nic) ≡ o →
    (d : Done (Result Appended NiFault)) → (
    let a = append slot pt list e (parts_of s.nic) in
    d ≡ ends_by o s.nic (with_parts a.parts s.nic) a.appended
    ) →
    entry_slot s.nic.indices slot ≡ false → header_slot d.state.headers.unexpected slot ≡ false → NothingKnown d.state → IsConsistent s →
    IsConsistentAfter (tells appended d s)
append_ended slot pt list e s None fault d is free left nothing ordered =
    let nothing' : NothingKnown (with_parts (append slot pt list e (parts_of s.nic)).parts s.nic) = rw is at nothing in
    let a = append slot pt list e (parts_of s.nic) in
    let left' : header_slot a.parts.side.headers.unexpected slot ≡ false = rw is at left in
    rw is (appended_ordered slot s a.parts a.appended (append_keeps slot pt list e (parts_of s.nic))
    (append_links slot pt list e (parts_of s.nic) (need-test _ _ _ fault)) free left' nothing' ordered)
append_ended slot pt list e s (Some f) fault d is free left nothing ordered =
    rw is (stays_ordered s (after s (says (fault_word f))) (asks_stays s (says (fault_word f)) refl) ordered)

-- the slot of the new entry is that of no entry that was linked, and no header that waits after the call lies in an entry of it
pub me_append_ordered : (slot pt : ℕ) (list : EntryList) (e : Entry) (s : Seat) (x : After) →
    x ≡ tells appended (calls.me_append slot pt list e s.nic) s → entry_slot s.nic.indices slot ≡ false →
    header_slot x.seat.nic.headers.unexpected slot ≡ false → IsConsistent s → IsConsistentAfter x
me_append_ordered slot pt list e s x is free left ordered =
    let left' : header_slot (calls.me_append slot pt list e s.nic).state.headers.unexpected slot ≡ false = rw is at left in
    rw is (append_ended slot pt list e s (append_fault pt e (parts_of s.nic)) refl (calls.me_append slot pt list e s.nic) refl free left'
    (append_nothing slot pt list e s.nic ordered.nothing) ordered)
