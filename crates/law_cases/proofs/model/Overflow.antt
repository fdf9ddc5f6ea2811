-- Appends that take headers, their events in order, and searches (Portals 4.3, unexpected messages and event queues).
use Rattle.std.specs.Prelude.{ℕ, Bool, true, false, ◌≡◌, List, [], ◌∷◌, Option, Some, None, Result, Ok, Err, refl, replicate}
use Rattle.ptl_types.specs.declared.entries.List.TheVariants.{Priority, Overflow as InOverflow}
use Rattle.ptl_types.specs.declared.entries.UnexpectedHeader.{UnexpectedHeader}
use Rattle.ptl_types.specs.declared.events.Event.{Event}
use Rattle.ptl_types.specs.declared.events.EventKind.{EventKind}
use Rattle.ptl_types.specs.declared.events.EventKind.TheVariants.{Put as PutEvent, PutOverflow, Link, AutoUnlink, AutoFree, Search}
use Rattle.ptl_types.specs.declared.elements.ElemType.TheVariants.{U8}
use Rattle.ptl_types.specs.declared.elements.AtomicOp.TheVariants.{Sum}
use Rattle.ptl_types.specs.declared.calls.Appended.{Appended}
use Rattle.ptl_types.specs.declared.calls.Appended.TheVariants.{Linked as IsLinked, Consumed}
use Rattle.ptl_types.specs.declared.calls.EqGot.TheVariants.{Got, Empty, Dropped as Lost}
use Rattle.ptl_types.specs.declared.calls.NiFault.{NiFault}
use Rattle.ptl_types.specs.declared.calls.NiFault.TheVariants.{NoSpace, InUse}
use Rattle.ptl_types.specs.declared.calls.Outcome.TheVariants.{Overflow}
use Rattle.ni_model.specs.Arrive.{request}
use Rattle.ni_model.specs.Append.{append, search}
use Rattle.ni_model.specs.Counts.{successes}
use Rattle.ni_model.specs.Tables.{handle}
use Rattle.ni_model.specs.State.{State, target}
use Rattle.ni_model.specs.Calls.{Done, Makes, pt_alloc, pt_free, ct_alloc, ct_get, entry_slot, entry_taken, eq_alloc, eq_get, me_append}
use Rattle.ni_model.specs.Calls.{me_search, me_unlink}
use Rattle.law_cases.proofs.model.Wide.{events_in, kinds_in}
use Rattle.law_cases.proofs.model.Setting.{new, first, entry, once, local, counting_overflow, put_at, put, atomic}

-- portal table index 1 with a queue of this room
abbrev told : ℕ → State
told room = (pt_alloc 1 (Some first) (eq_alloc 0 room new).state).state

-- the kinds of the events that wait, oldest first
abbrev kinds : State → List EventKind
kinds s = kinds_in first s

abbrev events : State → List Event
events s = events_in first s

-- ---- an overflow entry that is unlinked as it fills up, and three appends of a use-once entry
abbrev filled : State
filled = (target (target (target (me_append 0 1 InOverflow (local 4 (entry 0 8)) (told 8)).state (put_at 1 0 (1 ∷ 2 ∷ 3 ∷ []))).state
    (put_at 1 0 (4 ∷ 5 ∷ []))).state (put_at 1 0 (6 ∷ []))).state

abbrev append_once : State → Done (Result Appended NiFault)
append_once s = me_append 0 1 Priority (once (entry 8 4)) s

abbrev place_of : Result Appended NiFault → List ℕ
place_of (Ok (Consumed h)) = h.delivered ∷ h.place ∷ h.header.length ∷ []
place_of _ = []

unlinked_when_full : (target (target (me_append 0 1 InOverflow (local 4 (entry 0 8)) (told 8)).state (put_at 1 0 (1 ∷ 2 ∷ 3 ∷ []))).state
    (put_at 1 0 (4 ∷ 5 ∷ []))).delivered.outcome ≡ Overflow
unfolding target request append
unlinked_when_full = refl

third_is_dropped : filled.drops ≡ 1
unfolding target request append
third_is_dropped = refl

first_taken : place_of (append_once filled).answer ≡ 3 ∷ 0 ∷ 3 ∷ []
unfolding target request append
first_taken = refl

second_taken : place_of (append_once (append_once filled).state).answer ≡ 2 ∷ 3 ∷ 2 ∷ []
unfolding target request append
second_taken = refl

third_links : (append_once (append_once (append_once filled).state).state).answer ≡ Ok (IsLinked (handle 0 1))
unfolding target request append
third_links = refl

order_of_events : kinds (append_once (append_once (append_once filled).state).state).state ≡ Link ∷ AutoUnlink ∷ PutOverflow ∷ PutOverflow
    ∷ AutoFree ∷ Link ∷ []
unfolding target request append
order_of_events = refl

-- ---- the slot of that entry: nothing is linked there, and it is taken until the last header in the entry has gone
abbrev slot_after : State → ℕ → Bool
slot_after s slot = entry_taken filled.indices s.headers.unexpected slot

no_entry_is_linked : entry_slot filled.indices 0 ≡ false
unfolding target request append
no_entry_is_linked = refl

headers_take_its_slot : slot_after filled 0 ≡ true
unfolding target request append
headers_take_its_slot = refl

last_header_takes_its_slot : slot_after (append_once filled).state 0 ≡ true
unfolding target request append
last_header_takes_its_slot = refl

slot_is_free_again : slot_after (append_once (append_once filled).state).state 0 ≡ false
unfolding target request append
slot_is_free_again = refl

other_slots_are_free : slot_after filled 1 ≡ false
unfolding target request append
other_slots_are_free = refl

-- a persistent entry takes both headers, and may be linked under that slot
abbrev append_both : ℕ → Done (Result Appended NiFault)
append_both slot = me_append slot 1 Priority (entry 8 4) filled

links_under_its_slot : Makes (slot_after (append_both 0).state) append_both (append_both 0)
unfolding target request append
links_under_its_slot = record { slot = 0; free = refl; ended = refl }

-- a taken header's event says where its bytes lie
taken_says : events (append_once filled).state ≡ record {
  kind = Link;
  source = 0;
  pt = 1;
  match_bits = 5;
  hdr_data = 0;
  requested =
      0;
  delivered = 0;
  place = 0;
  ok = true;
} ∷ record {
  kind = AutoUnlink;
  source = 0;
  pt = 1;
  match_bits = 5;
  hdr_data = 0;
  requested =
      0;
  delivered = 0;
  place = 0;
  ok = true;
} ∷ record {
  kind = PutOverflow;
  source = 1;
  pt = 1;
  match_bits = 5;
  hdr_data = 77;
  requested =
      3;
  delivered = 3;
  place = 0;
  ok = true;
} ∷ []
unfolding target request append
taken_says = refl

-- a persistent entry takes both at once: each header's event, then the freeing, then the link
abbrev append_all : State
append_all = (me_append 0 1 Priority (entry 8 4) filled).state

order_of_all : kinds append_all ≡ Link ∷ AutoUnlink ∷ PutOverflow ∷ PutOverflow ∷ AutoFree ∷ Link ∷ []
unfolding target request append
order_of_all = refl

bytes_stay : append_all.memory ≡ 1 ∷ 2 ∷ 3 ∷ 4 ∷ 5 ∷ replicate 11 0
unfolding target request append
bytes_stay = refl

none_waits : append_all.headers.unexpected ≡ []
unfolding target request append
none_waits = refl

-- one success for each header that is taken
two_taken : ct_get first (me_append 0 1 Priority (counting_overflow first (entry 8 4)) (ct_alloc 0 filled).state).state ≡ Ok (successes 2)
unfolding target request append
two_taken = refl

one_taken : ct_get first (me_append 0 1 Priority (once (counting_overflow first (entry 8 4))) (ct_alloc 0 filled).state).state ≡ Ok
    (successes 1)
unfolding target request append
one_taken = refl

-- an entry that doesn't allow the header's operation doesn't find it, and one of another index neither
not_allowed : (me_append 0 1 Priority (once (record (entry 8 4) { allow_put = false })) filled).answer ≡ Ok (IsLinked (handle 0 1))
unfolding target request append
not_allowed = refl

other_index : (me_append 0 0 Priority (once (entry 8 4)) filled).answer ≡ Ok (IsLinked (handle 0 1))
unfolding target request append
other_index = refl

-- a taken put that delivered nothing has place 0, wherever its entry begins
abbrev nothing_delivered : State
nothing_delivered = (target (me_append 0 1 InOverflow (entry 6 2) (told 8)).state (put_at 1 9 (1 ∷ []))).state

place_of_nothing : place_of (append_once nothing_delivered).answer ≡ 0 ∷ 0 ∷ 1 ∷ []
unfolding target request append
place_of_nothing = refl

-- an overflow entry that is linked isn't freed by the last header, and isn't unlinked while a header lies in it
not_freed : kinds (append_once nothing_delivered).state ≡ Link ∷ PutOverflow ∷ []
unfolding target request append
not_freed = refl

still_in_use : (me_unlink (handle 0 0) nothing_delivered).answer ≡ Err InUse
unfolding target request append
still_in_use = refl

-- an index with a header isn't freed
index_in_use : (pt_free 1 filled).answer ≡ Err InUse
unfolding target request append
index_in_use = refl

-- an atomic that is taken is told as one
abbrev two_kinds : State
two_kinds = (target (target (me_append 0 0 InOverflow (local 0 (entry 0 8)) new).state (atomic 0 Sum U8 (1 ∷ []))).state
    (put (2 ∷ []))).state

atomic_first : place_of (me_append 0 0 Priority (once (entry 8 4)) two_kinds).answer ≡ 1 ∷ 0 ∷ 1 ∷ []
unfolding target request append
atomic_first = refl

-- ---- a message delivered to a priority entry is told with all that it says, and the unlinking after it
abbrev put_event : Event
put_event = record {
  kind = PutEvent;
  source = 1;
  pt = 1;
  match_bits = 5;
  hdr_data = 77;
  requested = 3;
  delivered = 2;
  place = 5;
  ok =
      true;
}

delivery_is_told : kinds (target (me_append 0 1 Priority (once (entry 4 3)) (told 8)).state (put_at 1 1 (1 ∷ 2 ∷ 3 ∷ []))).state ≡ Link
    ∷ PutEvent ∷ AutoUnlink ∷ []
unfolding target request append
delivery_is_told = refl

told_whole : (target (me_append 0 1 Priority (entry 4 3) (told 8)).state (put_at 1 1 (1 ∷ 2 ∷ 3 ∷ []))).state.memory ≡ 0 ∷ 0 ∷ 0 ∷ 0 ∷ 0
    ∷ 1 ∷ 2 ∷ replicate 9 0
unfolding target request append
told_whole = refl

event_says : events (target (me_append 0 1 Priority (entry 4 3) (told 8)).state (put_at 1 1 (1 ∷ 2 ∷ 3 ∷ []))).state
    ≡ record { kind = Link; source = 0; pt = 1; match_bits = 5; hdr_data = 0; requested = 0; delivered = 0; place = 0; ok = true }
    ∷ put_event ∷ []
unfolding target request append
event_says = refl

-- ---- a queue of room 1: the event that finds it full is the one that is lost
abbrev two_links : State
two_links = (me_append 1 1 Priority (record (entry 4 4) { match_bits = 6 }) (me_append 0 1 Priority (entry 0 4) (told 1)).state).state

lost_is_told : (eq_get first two_links).answer ≡ Ok Lost
unfolding append
lost_is_told = refl

abbrev link_of_first : Event
link_of_first = record { kind = Link; source = 0; pt = 1; match_bits = 5; hdr_data = 0; requested = 0; delivered = 0; place = 0; ok = true }

kept_is_given : (eq_get first (eq_get first two_links).state).answer ≡ Ok (Got link_of_first)
unfolding append
kept_is_given = refl

then_none : (eq_get first (eq_get first (eq_get first two_links).state).state).answer ≡ Ok Empty
unfolding append
then_none = refl

one_queue : (eq_alloc 1 1 two_links).answer ≡ Err NoSpace
unfolding append
one_queue = refl

-- ---- searches: the oldest header alone, with one event
finds_nothing : (me_search 1 (entry 0 4) false (told 1)).answer ≡ Ok None
unfolding search
finds_nothing = refl

missed : events (me_search 1 (entry 0 4) false (told 1)).state ≡ record {
  kind = Search;
  source = 0;
  pt = 1;
  match_bits = 5;
  hdr_data =
      0;
  requested = 0;
  delivered = 0;
  place = 0;
  ok = false;
} ∷ []
unfolding search
missed = refl

abbrev found_length : Result (Option UnexpectedHeader) NiFault → ℕ
found_length (Ok (Some h)) = h.delivered
found_length _ = 99

finds_oldest : found_length (me_search 1 (entry 0 4) false filled).answer ≡ 3
unfolding target request append search
finds_oldest = refl

found_stays : found_length (me_search 1 (entry 0 4) false (me_search 1 (entry 0 4) false filled).state).answer ≡ 3
unfolding target request append search
found_stays = refl

deleted_goes : found_length (me_search 1 (entry 0 4) true (me_search 1 (entry 0 4) true filled).state).answer ≡ 2
unfolding target request append search
deleted_goes = refl

deleting_is_told : kinds (me_search 1 (entry 0 4) true (me_search 1 (entry 0 4) true filled).state).state ≡ Link ∷ AutoUnlink ∷ Search
    ∷ Search ∷ AutoFree ∷ []
unfolding target request append search
deleting_is_told = refl
