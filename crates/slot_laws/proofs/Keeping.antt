-- What a request, an append and a search leave as it was: tables, and the match entries that are known.
use Rattle.std.proofs.Common.{◌≡◌, ℕ, zero, suc, ◌+◌, Bool, true, false, ◌&&◌, ◌||◌, not, List, [], ◌∷◌, ◌++◌, filter, Option, Some, None}
use Rattle.std.proofs.Common.{if◌then◌else◌, refl, ap, sym, ◌∙◌, subst}
use Rattle.std.specs.Prelude.{slice_set}
use Rattle.std.proofs.Math.Bool.{or-false, or_assoc}
use Rattle.std.proofs.lemmas.Bool.{or_left, or_right}
use Rattle.ptl_types.specs.declared.handles.Handle.{Handle}
use Rattle.ptl_types.specs.declared.headers.Header.{Header}
use Rattle.ptl_types.specs.declared.entries.Entry.{Entry}
use Rattle.ptl_types.specs.declared.entries.List.{List as EntryList}
use Rattle.ptl_types.specs.declared.entries.List.TheVariants.{Priority, Overflow}
use Rattle.ptl_types.specs.declared.calls.Outcome.TheVariants.{Dropped, Violation}
use Rattle.ptl_types.specs.declared.calls.Appended.{Appended}
use Rattle.ptl_types.specs.declared.calls.Appended.TheVariants.{Linked as IsLinked, Consumed}
use Rattle.ptl_types.specs.declared.events.EventKind.TheVariants.{Search}
use Rattle.ptl_types.specs.Handles.{same_handle}
use Rattle.ptl_types.specs.Messages.{Sent}
use Rattle.ni_model.specs.declared.Linked.{Linked}
use Rattle.ni_model.specs.declared.Found.{Found}
use Rattle.ni_model.specs.declared.IndexedHeader.{IndexedHeader}
use Rattle.ni_model.specs.Tables.{Table, handle}
use Rattle.ni_model.specs.Lists.{Index, advanced, index_at, is_linked, queue_of, unlinked}
use Rattle.ni_model.specs.Headers.{UnexpectedList, allows, finds, found_in, left_in, names_entry, no_room, oldest, without_oldest}
use Rattle.ni_model.specs.Refusals.{is_linked_anywhere, is_linked_in}
use Rattle.ni_model.specs.Arrive.{Parts, Side, accepted, chosen, entries_after, headers_after, indices_after, is_over, is_overflow, judged}
use Rattle.ni_model.specs.Arrive.{received, refused, request, running_after, side_after, updated_at}
use Rattle.ni_model.specs.Append.{append, append_once, append_priority, fresh, found_header, link_entry, linked_as, linked_at, next_handle}
use Rattle.ni_model.specs.Append.{overflow_counter, queue_at, search, searched_at, take_all, take_oldest, with_unexpected}
use Rattle.ni_model.specs.Counts.{successes}
use Rattle.ni_model.specs.Events.{header_event, kind_taken, link_event, missed_event}
use Rattle.ni_model.specs.Queues.{Waiting}
use Rattle.ni_objects.proofs.users.SumLemmas.{same-is}
use Rattle.target_engine.proofs.Within.{chosen-linked}
use Rattle.target_engine.proofs.Recorded.{linked-anywhere}
use Rattle.slot_laws.proofs.terms.Lasting.{Lasts}
use Rattle.slot_laws.proofs.Lasting.{either_more, lasts_counted, lasts_counts_after, lasts_each_counted, lasts_each_gone}
use Rattle.slot_laws.proofs.Lasting.{lasts_events_after}
use Rattle.slot_laws.proofs.Lasting.{lasts_gone_raised, lasts_self, lasts_told_of_entry, lasts_twice}

-- ---- tests

-- what comes last is said first
pushed_first : (new a b : Bool) → ((a || new) || b) ≡ true → (new || (a || b)) ≡ true
pushed_first true a b e = refl
pushed_first false true b e = refl
pushed_first false false b e = e

pushed_last : (new a b : Bool) → (a || (b || new)) ≡ true → (new || (a || b)) ≡ true
pushed_last true a b e = refl
pushed_last false true b e = refl
pushed_last false false b e = sym (or-false b) ∙ e

-- what was linked or had a header, or is linked where it has a new header
known_or : (linked' names' linked names new : Bool) → (linked' ≡ true → linked ≡ true) → (names' ≡ true → (new || names) ≡ true) →
    (new ≡ true → linked ≡ true) → (linked' || names') ≡ true → (linked || names) ≡ true
known_or true names' linked names new l n m e = or_left linked names (l refl)
known_or false names' linked names true l n m e = or_left linked names (m refl)
known_or false names' linked names false l n m e = or_right linked names (n e)

-- ---- linked entries

pub linked_filter : (p : Linked → Bool) (h : Handle) (xs : List Linked) → is_linked h (filter p xs) ≡ true → is_linked h xs ≡ true
linked_filter p h [] e = e
linked_filter p h (x ∷ xs) e =
    elim (p x) as (λ b. is_linked h (if b then x ∷ filter p xs else filter p xs) ≡ true →
    (same_handle x.handle h || is_linked h xs) ≡ true) [
      | true ↦ λ is. either_more (same_handle x.handle h) _ (same_handle x.handle h) _ (λ here. here) (linked_filter p h xs) is
      | false ↦ λ is. or_right (same_handle x.handle h) _ (linked_filter p h xs is)
    ] e

linked_advanced : (me : Handle) (to : ℕ) (h : Handle) (xs : List Linked) → is_linked h (advanced me to xs) ≡ is_linked h xs
linked_advanced me to h [] = refl
linked_advanced me to h (x ∷ xs) =
    rw (linked_advanced me to h xs)
    (elim (same_handle x.handle me) as (λ b. (same_handle (if b then record x { running = to } else x).handle h || is_linked h xs)
    ≡ (same_handle x.handle h || is_linked h xs)) [
      | true ↦ refl
      | false ↦ refl
    ])

linked_push : (h : Handle) (x : Linked) (xs : List Linked) → is_linked h (xs ++ x ∷ []) ≡ (is_linked h xs || same_handle x.handle h)
linked_push h x [] = or-false (same_handle x.handle h)
linked_push h x (y ∷ ys) =
    ap (λ b. same_handle y.handle h || b) (linked_push h x ys)
    ∙ sym (or_assoc (same_handle y.handle h) (is_linked h ys) (same_handle x.handle h))

entries_after_linked : (x : Linked) (d : Header) (h : Handle) (xs : List Linked) → is_linked h (entries_after x d xs) ≡ true →
    is_linked h xs ≡ true
entries_after_linked x d h xs e =
    let stay = if x.entry.manage_local then advanced x.handle (running_after x d) xs else xs in
    let stays : is_linked h stay ≡ is_linked h xs =
    elim x.entry.manage_local as (λ b. is_linked h (if b then advanced x.handle (running_after x d) xs else xs) ≡ is_linked h xs) [
      | true ↦ linked_advanced x.handle (running_after x d) h xs
      | false ↦ refl
    ] in
    elim (is_over x d) as (λ b. is_linked h (if b then unlinked x.handle xs else stay) ≡ true → is_linked h xs ≡ true) [
      | true ↦ linked_filter (λ y. not (same_handle y.handle x.handle)) h xs
      | false ↦ λ is. sym stays ∙ is
    ] e

-- in one index
updated_linked : (list : EntryList) (x : Linked) (d : Header) (h : Handle) (o : Option Index) →
    is_linked_in h (updated_at (record { list = list; linked = x }) d o) ≡ true → is_linked_in h o ≡ true
updated_linked list x d h None e = e
updated_linked Priority x d h (Some i) e =
    either_more (is_linked h (entries_after x d i.priority)) _ (is_linked h i.priority) _ (entries_after_linked x d h i.priority)
    (λ is. is) e
updated_linked Overflow x d h (Some i) e =
    either_more (is_linked h i.priority) _ (is_linked h i.priority) _ (λ is. is) (entries_after_linked x d h i.overflow) e

-- an index is replaced
pub linked_set : (h : Handle) (pt : ℕ) (o : Option Index) (is : List (Option Index)) →
    (is_linked_in h o ≡ true → is_linked_in h (index_at pt is) ≡ true) → is_linked_anywhere h (slice_set is pt o) ≡ true →
    is_linked_anywhere h is ≡ true
linked_set h pt o [] fewer e = e
linked_set h zero o (i ∷ is) fewer e = either_more (is_linked_in h o) _ (is_linked_in h i) _ fewer (λ later. later) e
linked_set h (suc pt) o (i ∷ is) fewer e =
    either_more (is_linked_in h i) _ (is_linked_in h i) _ (λ here. here) (linked_set h pt o is fewer) e

-- by one that may hold this entry
linked_set_or : (h : Handle) (b : Bool) (pt : ℕ) (o : Option Index) (is : List (Option Index)) →
    (is_linked_in h o ≡ true → (b || is_linked_in h (index_at pt is)) ≡ true) → is_linked_anywhere h (slice_set is pt o) ≡ true →
    (b || is_linked_anywhere h is) ≡ true
linked_set_or h true pt o is more e = refl
linked_set_or h false pt o is more e = linked_set h pt o is more e

linked_at_linked : (list : EntryList) (x : Linked) (h : Handle) (o : Option Index) → is_linked_in h (linked_at list x o) ≡ true →
    (same_handle x.handle h || is_linked_in h o) ≡ true
linked_at_linked list x h None e = cc
linked_at_linked Priority x h (Some i) e =
    pushed_first (same_handle x.handle h) (is_linked h i.priority) (is_linked h i.overflow)
    (sym (ap (λ b. b || is_linked h i.overflow) (linked_push h x i.priority)) ∙ e)
linked_at_linked Overflow x h (Some i) e =
    pushed_last (same_handle x.handle h) (is_linked h i.priority) (is_linked h i.overflow)
    (sym (ap (λ b. is_linked h i.priority || b) (linked_push h x i.overflow)) ∙ e)

-- ---- headers

names_filter : (p : IndexedHeader → Bool) (h : Handle) (hs : List IndexedHeader) → names_entry h (filter p hs) ≡ true →
    names_entry h hs ≡ true
names_filter p h [] e = e
names_filter p h (a ∷ hs) e =
    elim (p a) as (λ b. names_entry h (if b then a ∷ filter p hs else filter p hs) ≡ true →
    (same_handle a.header.entry h || names_entry h hs) ≡ true) [
      | true ↦ λ is. either_more (same_handle a.header.entry h) _ (same_handle a.header.entry h) _ (λ here. here) (names_filter p h hs) is
      | false ↦ λ is. or_right (same_handle a.header.entry h) _ (names_filter p h hs is)
    ] e

names_without_oldest : (pt : ℕ) (e : Entry) (h : Handle) (hs : List IndexedHeader) → names_entry h (without_oldest pt e hs) ≡ true →
    names_entry h hs ≡ true
names_without_oldest pt e h [] is = is
names_without_oldest pt e h (a ∷ hs) is =
    elim (finds pt e a) as (λ b. names_entry h (if b then hs else a ∷ without_oldest pt e hs) ≡ true →
    (same_handle a.header.entry h || names_entry h hs) ≡ true) [
      | true ↦ λ later. or_right (same_handle a.header.entry h) _ later
      | false ↦ λ still.
          either_more (same_handle a.header.entry h) _ (same_handle a.header.entry h) _ (λ here. here)
          (names_without_oldest pt e h hs) still
    ] is

names_push : (h : Handle) (a : IndexedHeader) (hs : List IndexedHeader) →
    names_entry h (hs ++ a ∷ []) ≡ (names_entry h hs || same_handle a.header.entry h)
names_push h a [] = or-false (same_handle a.header.entry h)
names_push h a (b ∷ hs) =
    ap (λ t. same_handle b.header.entry h || t) (names_push h a hs)
    ∙ sym (or_assoc (same_handle b.header.entry h) (names_entry h hs) (same_handle a.header.entry h))

-- a message to an overflow entry leaves a header that names it
names_after : (list : EntryList) (x : Linked) (d : Header) (hs : UnexpectedList) (h : Handle) →
    names_entry h (headers_after (record { list = list; linked = x }) d hs).unexpected ≡ true →
    (same_handle x.handle h || names_entry h hs.unexpected) ≡ true
names_after Priority x d hs h e = or_right (same_handle x.handle h) _ e
names_after Overflow x d hs h e =
    pushed_last (same_handle x.handle h) false (names_entry h hs.unexpected) (sym (names_push h _ hs.unexpected) ∙ e)

-- ---- what a target is handed

-- a match entry that a target knows
abbrev pub side_knows : Handle → Side → Bool
side_knows h s = is_linked_anywhere h s.indices || names_entry h s.headers.unexpected

pub record KeepsParts (p q : Parts) : Type 0 where
  pub given : q.side.given ≡ p.side.given
  pub cts : Lasts p.cts q.cts
  pub eqs : Lasts p.eqs q.eqs
  pub known : (h : Handle) → side_knows h q.side ≡ true → side_knows h p.side ≡ true

parts_self : (p : Parts) → KeepsParts p p
parts_self p = record { given = refl; cts = lasts_self p.cts; eqs = lasts_self p.eqs; known = λ h is. is }

-- ---- a request

-- the entry that is found is linked
found_known : (d : Header) (s : Side) (f : Found) → chosen d s.indices ≡ Some f → (h : Handle) → same_handle f.linked.handle h ≡ true →
    is_linked_anywhere h s.indices ≡ true
found_known d s f found h same =
    let there = linked-anywhere f.list f.linked.handle d.pt s.indices (chosen-linked d s.indices f found) in
    subst (λ k. is_linked_anywhere k s.indices ≡ true) (same-is f.linked.handle h same) there

side_after_known : (d : Header) (s : Side) (f : Found) → chosen d s.indices ≡ Some f → (h : Handle) →
    side_knows h (side_after f d s) ≡ true → side_knows h s ≡ true
side_after_known d s f found h e =
    known_or (is_linked_anywhere h (indices_after f d s.indices)) (names_entry h (headers_after f d s.headers).unexpected)
    (is_linked_anywhere h s.indices) (names_entry h s.headers.unexpected) (same_handle f.linked.handle h)
    (linked_set h d.pt (updated_at f d (index_at d.pt s.indices)) s.indices (updated_linked f.list f.linked d h (index_at d.pt s.indices)))
    (names_after f.list f.linked d s.headers h) (found_known d s f found h) e

accepted_keeps : (p : Parts) (m : Sent) (f : Found) → chosen m.header p.side.indices ≡ Some f → KeepsParts p (accepted p m f).parts
accepted_keeps p m f found = record {
  given = refl;
  cts = lasts_counts_after f.linked p.cts;
  eqs = lasts_events_after f m.header (queue_of (index_at m.header.pt p.side.indices)) p.eqs;
  known = side_after_known m.header p.side f found;
}

judged_keeps : (p : Parts) (m : Sent) (o : Option Found) → chosen m.header p.side.indices ≡ o → KeepsParts p (judged p m o).parts
judged_keeps p m None found = parts_self p
judged_keeps p m (Some f) found =
    let full = is_overflow f.list && no_room p.side.headers in
    elim (allows f.linked.entry m.header.kind) as (λ b. KeepsParts p (if b
    then (if full then received p (refused Dropped m.header) else accepted p m f) else received p (refused Violation m.header)).parts) [
      | true ↦
          elim full as (λ b. KeepsParts p (if b then received p (refused Dropped m.header) else accepted p m f).parts) [
            | true ↦ parts_self p
            | false ↦ accepted_keeps p m f found
          ]
      | false ↦ parts_self p
    ]

pub request_keeps : (p : Parts) (m : Sent) → KeepsParts p (request p m).parts
unfolding request
request_keeps p m = judged_keeps p m (chosen m.header p.side.indices) refl

-- ---- an append and a search

-- headers go
fewer_headers : (s : Side) (hs : List IndexedHeader) →
    ((h : Handle) → names_entry h hs ≡ true → names_entry h s.headers.unexpected ≡ true) →
    (h : Handle) → side_knows h (with_unexpected hs s) ≡ true → side_knows h s ≡ true
fewer_headers s hs fewer h e =
    either_more (is_linked_anywhere h s.indices) (names_entry h hs) (is_linked_anywhere h s.indices) (names_entry h s.headers.unexpected)
    (λ linked. linked) (fewer h) e

take_all_keeps : (pt : ℕ) (e : Entry) (p : Parts) → KeepsParts p (take_all pt e p)
take_all_keeps pt e p = record {
  given = refl;
  cts = lasts_each_counted (overflow_counter e) (found_in pt e p.side.headers.unexpected) p.cts;
  eqs = lasts_each_gone e.hidden p.side (left_in pt e p.side.headers.unexpected) (found_in pt e p.side.headers.unexpected) p.eqs;
  known =
      fewer_headers p.side (left_in pt e p.side.headers.unexpected)
      (λ h. names_filter (λ a. not (finds pt e a)) h p.side.headers.unexpected);
}

take_oldest_keeps : (pt : ℕ) (e : Entry) (a : IndexedHeader) (p : Parts) → KeepsParts p (take_oldest pt e a p)
take_oldest_keeps pt e a p =
    let left = without_oldest pt e p.side.headers.unexpected in
    record {
      given = refl;
      cts = lasts_counted (overflow_counter e) (successes 1) p.cts;
      eqs = lasts_gone_raised (kind_taken a.header.header.kind) e.hidden p.side left a p.eqs;
      known = fewer_headers p.side left (λ h. names_without_oldest pt e h p.side.headers.unexpected);
    }

-- an entry comes
pub record LinksParts (slot : ℕ) (p q : Parts) : Type 0 where
  pub given : q.side.given ≡ p.side.given + 1
  pub cts : Lasts p.cts q.cts
  pub eqs : Lasts p.eqs q.eqs
  pub known : (h : Handle) → side_knows h q.side ≡ true → (same_handle (handle slot p.side.given) h || side_knows h p.side) ≡ true

link_keeps : (slot pt : ℕ) (list : EntryList) (e : Entry) (p : Parts) → LinksParts slot p (link_entry slot pt list e p)
link_keeps slot pt list e p =
    let new = fresh (next_handle slot p.side) e in
    record {
      given = refl;
      cts = lasts_self p.cts;
      eqs = lasts_told_of_entry e.hidden (queue_at pt p.side) (link_event pt e.match_bits) p.eqs;
      known = λ h is.
          let b : Bool = same_handle new.handle h in
          let linked = linked_set_or h b pt (linked_at list new (index_at pt p.side.indices)) p.side.indices
          (linked_at_linked list new h (index_at pt p.side.indices)) in
          sym (or_assoc b (is_linked_anywhere h p.side.indices) (names_entry h p.side.headers.unexpected))
          ∙ either_more _ (names_entry h p.side.headers.unexpected) (b || is_linked_anywhere h p.side.indices)
          (names_entry h p.side.headers.unexpected) linked (λ named. named) is;
    }

-- headers go and then an entry comes
keeps_links : (slot : ℕ) (p q r : Parts) → KeepsParts p q → LinksParts slot q r → LinksParts slot p r
keeps_links slot p q r k l = record {
  given = l.given ∙ ap (λ n. n + 1) k.given;
  cts = lasts_twice p.cts q.cts r.cts k.cts l.cts;
  eqs = lasts_twice p.eqs q.eqs r.eqs k.eqs l.eqs;
  known = λ h is.
      either_more (same_handle (handle slot q.side.given) h) (side_knows h q.side) (same_handle (handle slot p.side.given) h)
      (side_knows h p.side) (λ same. rw (← k.given) same) (k.known h) (l.known h is);
}

-- by the answer of an append
abbrev pub AppendKeeps : ℕ → Parts → Parts → Appended → Type 0
AppendKeeps slot p q (IsLinked h) = (h ≡ handle slot p.side.given) × LinksParts slot p q
AppendKeeps slot p q (Consumed u) = KeepsParts p q

once_keeps : (slot pt : ℕ) (e : Entry) (p : Parts) (o : Option IndexedHeader) →
    AppendKeeps slot p (append_once slot pt e p o).parts (append_once slot pt e p o).appended
once_keeps slot pt e p None = (refl, link_keeps slot pt Priority e p)
once_keeps slot pt e p (Some a) = take_oldest_keeps pt e a p

priority_keeps : (slot pt : ℕ) (e : Entry) (p : Parts) →
    AppendKeeps slot p (append_priority slot pt e p).parts (append_priority slot pt e p).appended
priority_keeps slot pt e p =
    let once = append_once slot pt e p (oldest pt e p.side.headers.unexpected) in
    let all = linked_as slot pt Priority e (found_in pt e p.side.headers.unexpected) (take_all pt e p) in
    elim e.use_once as (λ b. AppendKeeps slot p (if b then once else all).parts (if b then once else all).appended) [
      | true ↦ once_keeps slot pt e p (oldest pt e p.side.headers.unexpected)
      | false ↦ (refl, keeps_links slot p (take_all pt e p) _ (take_all_keeps pt e p) (link_keeps slot pt Priority e (take_all pt e p)))
    ]

pub append_keeps : (slot pt : ℕ) (list : EntryList) (e : Entry) (p : Parts) →
    AppendKeeps slot p (append slot pt list e p).parts (append slot pt list e p).appended
unfolding append
append_keeps slot pt Priority e p = priority_keeps slot pt e p
append_keeps slot pt Overflow e p = (refl, link_keeps slot pt Overflow e p)

-- events alone
told_keeps : (p : Parts) (eqs : Table Waiting) → Lasts p.eqs eqs → KeepsParts p (record p { eqs = eqs })
told_keeps p eqs told = record { given = refl; cts = lasts_self p.cts; eqs = told; known = λ h is. is }

found_keeps : (pt : ℕ) (e : Entry) (delete : Bool) (a : IndexedHeader) (p : Parts) → KeepsParts p (found_header pt e delete a p)
found_keeps pt e true a p =
    let left = without_oldest pt e p.side.headers.unexpected in
    record {
      given = refl;
      cts = lasts_self p.cts;
      eqs = lasts_gone_raised Search e.hidden p.side left a p.eqs;
      known = fewer_headers p.side left (λ h. names_without_oldest pt e h p.side.headers.unexpected);
    }
found_keeps pt e false a p =
    told_keeps p _ (lasts_told_of_entry e.hidden (queue_at pt p.side) (header_event Search a) p.eqs)

searched_keeps : (pt : ℕ) (e : Entry) (delete : Bool) (p : Parts) (o : Option IndexedHeader) →
    KeepsParts p (searched_at pt e delete p o).parts
searched_keeps pt e delete p None =
    told_keeps p _ (lasts_told_of_entry e.hidden (queue_at pt p.side) (missed_event pt e.match_bits) p.eqs)
searched_keeps pt e delete p (Some a) = found_keeps pt e delete a p

pub search_keeps : (pt : ℕ) (e : Entry) (delete : Bool) (p : Parts) → KeepsParts p (search pt e delete p).parts
unfolding search
search_keeps pt e delete p = searched_keeps pt e delete p (oldest pt e p.side.headers.unexpected)
