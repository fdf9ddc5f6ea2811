-- The events of a target, each with all its fields, and what a header keeps (Portals 4.3, event types).
use Rattle.std.specs.Prelude.{ℕ, true, false, ◌≡◌, List, [], ◌∷◌, Some, refl}
use Rattle.ptl_types.specs.declared.headers.Header.{Header}
use Rattle.ptl_types.specs.declared.headers.MessageKind.{MessageKind}
use Rattle.ptl_types.specs.declared.headers.MessageKind.TheVariants.{Put, Get, Atomic, FetchAtomic, Swap}
use Rattle.ptl_types.specs.declared.elements.ElemType.TheVariants.{U16}
use Rattle.ptl_types.specs.declared.elements.AtomicOp.TheVariants.{Sum}
use Rattle.ptl_types.specs.declared.elements.SwapOp.TheVariants.{Cswap}
use Rattle.ptl_types.specs.declared.entries.Entry.{Entry}
use Rattle.ptl_types.specs.declared.entries.List.{List as EntryList}
use Rattle.ptl_types.specs.declared.entries.List.TheVariants.{Priority, Overflow as InOverflow}
use Rattle.ptl_types.specs.declared.events.Event.{Event}
use Rattle.ptl_types.specs.declared.events.EventKind.{EventKind}
use Rattle.ptl_types.specs.declared.events.EventKind.TheVariants.{Put as PutEvent, Get as GetEvent, Atomic as AtomicEvent}
use Rattle.ptl_types.specs.declared.events.EventKind.TheVariants.{FetchAtomic as FetchEvent, PutOverflow, AtomicOverflow, AutoUnlink}
use Rattle.ptl_types.specs.declared.events.EventKind.TheVariants.{AutoFree, Link, Search}
use Rattle.ptl_types.specs.Messages.{Sent, message}
use Rattle.ni_model.specs.Append.{append, search}
use Rattle.ni_model.specs.Arrive.{request}
use Rattle.ni_model.specs.State.{State, opened, target}
use Rattle.ni_model.specs.Calls.{eq_alloc, me_append, me_search, pt_alloc}
use Rattle.law_cases.proofs.model.Setting.{entry, first, local, once}
use Rattle.law_cases.proofs.model.Wide.{asks, events_in, kinds_in, linked_event, many, region}

-- index 1 has a queue
abbrev empty : State
empty = (pt_alloc 1 (Some first) (eq_alloc 0 8 (opened 0 2 many region)).state).state

-- bytes 4 to 9, for match bits 5 and 7
abbrev part : Entry
part = record (entry 4 6) { ignore_bits = 2 }

abbrev holding : EntryList → Entry → State
holding place e = (me_append 0 1 place e empty).state

-- ---- requests with match bits 7 at offset 1
abbrev with_seven : MessageKind → ℕ → Header
with_seven kind length = record (asks kind length) { match_bits = 7 }

abbrev put : Sent
put = message (with_seven Put 9) (1 ∷ 2 ∷ 3 ∷ 4 ∷ 5 ∷ 6 ∷ 7 ∷ 8 ∷ 9 ∷ [])

abbrev get : Sent
get = message (with_seven Get 9) []

abbrev atomic : Sent
atomic = message (record (with_seven Atomic 6) { op = Some Sum; ty = U16 }) (1 ∷ 0 ∷ 1 ∷ 0 ∷ 1 ∷ 0 ∷ [])

abbrev fetch : Sent
fetch = message (record (with_seven FetchAtomic 6) { op = Some Sum; ty = U16 }) (1 ∷ 0 ∷ 1 ∷ 0 ∷ 1 ∷ 0 ∷ [])

abbrev swap : Sent
swap = message (record (with_seven Swap 2) { swap = Some Cswap; ty = U16; operand = 3 }) (1 ∷ 0 ∷ [])

-- ---- deliveries: five bytes fit, of elements of two bytes two
abbrev of_message : EventKind → ℕ → ℕ → Event
of_message kind requested delivered = record {
  kind = kind;
  source = 1;
  pt = 1;
  match_bits = 7;
  hdr_data = 77;
  requested = requested;
  delivered = delivered;
  place = 5;
  ok = true;
}

abbrev after : Entry → Sent → List Event
after e m = events_in first (target (holding Priority e) m).state

put_is_told : after part put ≡ linked_event ∷ of_message PutEvent 9 5 ∷ []
unfolding target request append
put_is_told = refl

get_is_told : after part get ≡ linked_event ∷ of_message GetEvent 9 5 ∷ []
unfolding target request append
get_is_told = refl

atomic_is_told : after part atomic ≡ linked_event ∷ of_message AtomicEvent 6 4 ∷ []
unfolding target request append
atomic_is_told = refl

fetch_is_told : after part fetch ≡ linked_event ∷ of_message FetchEvent 6 4 ∷ []
unfolding target request append
fetch_is_told = refl

swap_is_told_as_a_fetch : after part swap ≡ linked_event ∷ of_message FetchEvent 2 2 ∷ []
unfolding target request append
swap_is_told_as_a_fetch = refl

-- an unlinked entry tells its own match bits
abbrev of_entry : EventKind → ℕ → Event
of_entry kind bits =
    record { kind = kind; source = 0; pt = 1; match_bits = bits; hdr_data = 0; requested = 0; delivered = 0; place = 0; ok = true }

unlinking_is_told : after (once part) put ≡ linked_event ∷ of_message PutEvent 9 5 ∷ of_entry AutoUnlink 5 ∷ []
unfolding target request append
unlinking_is_told = refl

-- a drop and a violation are told by nothing
violation_is_not_told : after (record part { allow_put = false }) put ≡ linked_event ∷ []
unfolding target request append
violation_is_not_told = refl

-- ---- the overflow list
abbrev kept : Entry → Sent → State
kept e m = (target (holding InOverflow e) m).state

overflow_is_not_told : events_in first (kept part put) ≡ linked_event ∷ []
unfolding target request append
overflow_is_not_told = refl

overflow_unlinks : events_in first (kept (once part) put) ≡ linked_event ∷ of_entry AutoUnlink 5 ∷ []
unfolding target request append
overflow_unlinks = refl

header_is_kept :
    (kept part put).headers.unexpected
    ≡ record {
      pt = 1;
      header = record { entry = first; place = 5; delivered = 5; header = with_seven Put 9 };
      hidden = part.hidden;
    } ∷ []
unfolding target request append
header_is_kept = refl

-- a use-once entry for bits 7 takes the header, and the entry that it lay in is freed
abbrev taking : Entry
taking = once (record (entry 12 4) { match_bits = 7 })

abbrev taken : Sent → State
taken m = (me_append 0 1 Priority taking (kept (once part) m)).state

taken_put_is_told :
    events_in first (taken put)
    ≡ linked_event ∷ of_entry AutoUnlink 5 ∷ of_message PutOverflow 9 5 ∷ of_entry AutoFree 0 ∷ []
unfolding target request append
taken_put_is_told = refl

taken_atomic_is_told :
    events_in first (taken atomic)
    ≡ linked_event ∷ of_entry AutoUnlink 5 ∷ of_message AtomicOverflow 6 4 ∷ of_entry AutoFree 0 ∷ []
unfolding target request append
taken_atomic_is_told = refl

-- one that stays linked is told so with its own bits
abbrev staying : State
staying = (me_append 1 1 Priority (record (entry 12 4) { match_bits = 7 }) (kept part put)).state

staying_is_told : events_in first staying ≡ linked_event ∷ of_message PutOverflow 9 5 ∷ of_entry Link 7 ∷ []
unfolding target request append
staying_is_told = refl

-- ---- searches
found_is_told :
    events_in first (me_search 1 taking false (kept (once part) put)).state
    ≡ linked_event ∷ of_entry AutoUnlink 5 ∷ of_message Search 9 5 ∷ []
unfolding target request append search
found_is_told = refl

deleted_is_told :
    events_in first (me_search 1 taking true (kept (once part) put)).state
    ≡ linked_event ∷ of_entry AutoUnlink 5 ∷ of_message Search 9 5 ∷ of_entry AutoFree 0 ∷ []
unfolding target request append search
deleted_is_told = refl

missed_is_told : events_in first (me_search 1 taking true empty).state ≡ record (of_entry Search 7) { ok = false } ∷ []
unfolding target request append search
missed_is_told = refl

-- ---- a header that stays keeps its entry: two headers lie in one that went with the second of them
abbrev older : Sent
older = message (record (asks Put 3) { offset = 0 }) (1 ∷ 2 ∷ 3 ∷ [])

abbrev younger : Sent
younger = message (with_seven Put 2) (4 ∷ 5 ∷ [])

abbrev two_kept : State
two_kept = (target (kept (local 4 (record (entry 0 8) { ignore_bits = 2 })) older) younger).state

abbrev older_taken : State
older_taken = (me_append 1 1 Priority (entry 12 4) two_kept).state

entry_is_kept : kinds_in first older_taken ≡ Link ∷ AutoUnlink ∷ PutOverflow ∷ Link ∷ []
unfolding target request append
entry_is_kept = refl

younger_frees :
    kinds_in first (me_append 2 1 Priority taking older_taken).state
    ≡ Link ∷ AutoUnlink ∷ PutOverflow ∷ Link ∷ PutOverflow ∷ AutoFree ∷ []
unfolding target request append
younger_frees = refl

-- by a use-once entry and by a search likewise
once_keeps : kinds_in first (me_append 1 1 Priority (once (entry 12 4)) two_kept).state ≡ Link ∷ AutoUnlink ∷ PutOverflow ∷ []
unfolding target request append
once_keeps = refl

search_keeps : kinds_in first (me_search 1 (entry 12 4) true two_kept).state ≡ Link ∷ AutoUnlink ∷ Search ∷ []
unfolding target request append search
search_keeps = refl
