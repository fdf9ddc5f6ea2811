-- When calls are refused, row by row, with the nearest case in which each isn't.
use Rattle.std.specs.Prelude.{ℕ, ◌≡◌, ◌-◌, ◌^◌, List, [], ◌∷◌, Option, Some, None, Result, Ok, Err, map, refl}
use Rattle.ptl_types.specs.declared.handles.Handle.{Handle}
use Rattle.ptl_types.specs.declared.handles.Count.{Count}
use Rattle.ptl_types.specs.declared.headers.AckRequest.TheVariants.{NoAck}
use Rattle.ptl_types.specs.declared.headers.MessageKind.TheVariants.{Put as PutKind}
use Rattle.ptl_types.specs.declared.elements.ElemType.TheVariants.{U16}
use Rattle.ptl_types.specs.declared.elements.AtomicOp.TheVariants.{Sum}
use Rattle.ptl_types.specs.declared.elements.SwapOp.TheVariants.{Cswap}
use Rattle.ptl_types.specs.declared.entries.Entry.{Entry}
use Rattle.ptl_types.specs.declared.entries.List.{List as EntryList}
use Rattle.ptl_types.specs.declared.entries.List.TheVariants.{Priority, Overflow}
use Rattle.ptl_types.specs.declared.calls.Appended.TheVariants.{Linked as IsLinked}
use Rattle.ptl_types.specs.declared.calls.NiFault.{NiFault}
use Rattle.ptl_types.specs.declared.calls.NiFault.TheVariants.{Stale, NoSpace, OutOfRegion, InUse, CountFull}
use Rattle.ptl_types.specs.declared.calls.PutArgs.{PutArgs}
use Rattle.ptl_types.specs.declared.calls.GetArgs.{GetArgs}
use Rattle.ptl_types.specs.declared.calls.TriggeredOp.{TriggeredOp}
use Rattle.ptl_types.specs.declared.calls.TriggeredOp.TheVariants.{Put, Get, Atomic, FetchAtomic, Swap, Inc, Set}
use Rattle.ptl_types.specs.Handles.{top}
use Rattle.ptl_types.specs.Messages.{message}
use Rattle.ni_model.specs.Append.{append}
use Rattle.ni_model.specs.Arrive.{request}
use Rattle.ni_model.specs.Counts.{successes}
use Rattle.ni_model.specs.Starts.{started}
use Rattle.ni_model.specs.Tables.{handle}
use Rattle.ni_model.specs.State.{State, opened, target}
use Rattle.ni_model.specs.Calls.{awaits, ct_alloc, ct_cancel, ct_free, ct_get, ct_inc, ct_set, eq_alloc, eq_free, eq_get, md_bind}
use Rattle.ni_model.specs.Calls.{md_release, me_append, me_unlink, pt_alloc, pt_free, start, triggered}
use Rattle.law_cases.proofs.model.Setting.{counting, entry, first, once, part_of, second}
use Rattle.law_cases.proofs.model.Wide.{asks, base, bound_both, fault_of, fetching, goal, many, region, sending, source, unknown}

-- ---- portal table indices
queue_of_an_index : (pt_alloc 2 (Some second) base).answer ≡ Ok tt
queue_of_an_index = refl

no_queue_of_an_index : (pt_alloc 2 (Some unknown) base).answer ≡ Err Stale
no_queue_of_an_index = refl

index_past_the_limit : (pt_alloc 3 None base).answer ≡ Err NoSpace
index_past_the_limit = refl

abbrev two_indices : State
two_indices = (pt_alloc 2 None (pt_alloc 0 None base).state).state

abbrev entry_at : ℕ → EntryList → State
entry_at pt place = (me_append 0 pt place (entry 0 4) two_indices).state

not_allocated : (pt_free 1 two_indices).answer ≡ Err Stale
not_allocated = refl

priority_entry_in_index : (pt_free 2 (entry_at 2 Priority)).answer ≡ Err InUse
unfolding append
priority_entry_in_index = refl

overflow_entry_in_index : (pt_free 2 (entry_at 2 Overflow)).answer ≡ Err InUse
unfolding append
overflow_entry_in_index = refl

entry_in_other_index : (pt_free 0 (entry_at 2 Priority)).answer ≡ Ok tt
unfolding append
entry_in_other_index = refl

index_is_gone : (pt_free 2 (pt_free 2 two_indices).state).answer ≡ Err Stale
index_is_gone = refl

-- ---- unlinking
from_priority : (pt_free 2 (me_unlink first (entry_at 2 Priority)).state).answer ≡ Ok tt
unfolding append
from_priority = refl

from_overflow : (me_unlink first (entry_at 2 Overflow)).answer ≡ Ok tt
unfolding append
from_overflow = refl

overflow_is_unlinked : (pt_free 2 (me_unlink first (entry_at 2 Overflow)).state).answer ≡ Ok tt
unfolding append
overflow_is_unlinked = refl

abbrev two_entries : State
two_entries = (me_append 1 2 Priority (entry 4 4) (entry_at 2 Priority)).state

other_stays : (me_unlink second (me_unlink first two_entries).state).answer ≡ Ok tt
unfolding append
other_stays = refl

younger_is_unlinked : (me_unlink second two_entries).answer ≡ Ok tt
unfolding append
younger_is_unlinked = refl

unlinked_once : (me_unlink first (me_unlink first two_entries).state).answer ≡ Err Stale
unfolding append
unlinked_once = refl

-- ---- counting events
full_of_counters : (ct_alloc 3 (ct_alloc 2 base).state).answer ≡ Err NoSpace
full_of_counters = refl

last_stamp : (ct_alloc 2 (record base { cts = record base.cts { given = top - 1 } })).answer ≡ Ok (handle 2 (top - 1))
last_stamp = refl

no_stamp_left : (ct_alloc 2 (record base { cts = record base.cts { given = top } })).answer ≡ Err NoSpace
no_stamp_left = refl

no_counter_to_free : (ct_free unknown base).answer ≡ Err Stale
no_counter_to_free = refl

unnamed_counter : (ct_free first base).answer ≡ Ok tt
unnamed_counter = refl

descriptor_counts : (ct_free second (bound_both source goal)).answer ≡ Err InUse
descriptor_counts = refl

abbrev counted_at : ℕ → EntryList → State
counted_at pt place = (me_append 0 pt place (counting second (entry 0 4)) two_indices).state

priority_entry_counts : (ct_free second (counted_at 2 Priority)).answer ≡ Err InUse
unfolding append
priority_entry_counts = refl

overflow_entry_counts : (ct_free second (counted_at 0 Overflow)).answer ≡ Err InUse
unfolding append
overflow_entry_counts = refl

-- the younger of two entries, and of two operations
younger_entry_counts : (ct_free second (me_append 1 2 Priority (counting second (entry 4 4)) (entry_at 2 Priority)).state).answer ≡ Err
    InUse
unfolding append
younger_entry_counts = refl

abbrev one_waits : State
one_waits = (triggered (Inc first (successes 1)) first 1 base).state

younger_operation_names : (ct_free second (triggered (Inc second (successes 1)) first 1 one_waits).state).answer ≡ Err InUse
younger_operation_names = refl

older_operation_names_no_other : (ct_free second one_waits).answer ≡ Ok tt
older_operation_names_no_other = refl

other_is_counted : (ct_free first (counted_at 2 Priority)).answer ≡ Ok tt
unfolding append
other_is_counted = refl

increment_names : (ct_free second (triggered (Inc second (successes 1)) first 1 base).state).answer ≡ Err InUse
increment_names = refl

set_names : (ct_free second (triggered (Set second (successes 1)) first 1 base).state).answer ≡ Err InUse
set_names = refl

no_counter_to_set : (ct_set unknown (successes 1) base).answer ≡ Err Stale
no_counter_to_set = refl

no_counter_to_raise : (ct_inc unknown (successes 1) base).answer ≡ Err Stale
no_counter_to_raise = refl

no_counter_to_cancel : (ct_cancel unknown base).answer ≡ Err Stale
no_counter_to_cancel = refl

set_to_the_end : (ct_set first (record { success = top - 1; failure = 1 }) base).answer ≡ Ok tt
set_to_the_end = refl

set_past_the_end : (ct_set first (record { success = top - 1; failure = 2 }) base).answer ≡ Err CountFull
set_past_the_end = refl

abbrev near_the_end : State
near_the_end = (ct_set first (record { success = top - 3; failure = 1 }) base).state

raised_to_the_end :
    ct_get first (ct_inc first (record { success = 1; failure = 1 }) near_the_end).state
    ≡ Ok (record { success = top - 2; failure = 2 })
raised_to_the_end = refl

raised_past_the_end : (ct_inc first (record { success = 1; failure = 2 }) near_the_end).answer ≡ Err CountFull
raised_past_the_end = refl

-- slot and stamp are both compared
other_slot : ct_get (handle 1 0) base ≡ Err Stale
other_slot = refl

other_stamp : ct_get (handle 0 1) base ≡ Err Stale
other_stamp = refl

set_changes_one : ct_get second (ct_set first (successes 5) base).state ≡ Ok (successes 0)
set_changes_one = refl

freed_is_one : ct_get second (ct_free first base).state ≡ Ok (successes 0)
freed_is_one = refl

-- ---- event queues
full_of_queues : (eq_alloc 2 1 base).answer ≡ Err NoSpace
full_of_queues = refl

no_queue_to_free : (eq_free unknown base).answer ≡ Err Stale
no_queue_to_free = refl

no_queue_to_get : (eq_get unknown base).answer ≡ Err Stale
no_queue_to_get = refl

index_tells : (eq_free second (pt_alloc 2 (Some second) base).state).answer ≡ Err InUse
index_tells = refl

later_index_tells : (eq_free second (pt_alloc 2 (Some second) (pt_alloc 0 (Some first) base).state).state).answer ≡ Err InUse
later_index_tells = refl

descriptor_tells : (eq_free second (bound_both source goal)).answer ≡ Err InUse
descriptor_tells = refl

other_is_told : (eq_free first (pt_alloc 2 (Some second) base).state).answer ≡ Ok tt
other_is_told = refl

queue_is_gone : (eq_get first (eq_free first base).state).answer ≡ Err Stale
queue_is_gone = refl

-- ---- memory descriptors
no_queue_to_tell : (md_bind 0 (record (part_of 0 4) { eq = Some unknown }) base).answer ≡ Err Stale
no_queue_to_tell = refl

no_counter_to_count : (md_bind 0 (record (part_of 0 4) { ct = Some unknown }) base).answer ≡ Err Stale
no_counter_to_count = refl

empty_part_at_the_end : (md_bind 0 (part_of 16 0) base).answer ≡ Ok first
empty_part_at_the_end = refl

abbrev bound : State
bound = bound_both source goal

-- the lowest number first
no_third_descriptor : (md_bind 2 (part_of 0 17) bound).answer ≡ Err NoSpace
no_third_descriptor = refl

stale_before_no_space : (md_bind 2 (record (part_of 0 17) { ct = Some unknown }) bound).answer ≡ Err Stale
stale_before_no_space = refl

no_descriptor_awaits : awaits unknown bound ≡ Err Stale
no_descriptor_awaits = refl

no_descriptor_to_release : (md_release unknown bound).answer ≡ Err Stale
no_descriptor_to_release = refl

release_leaves_the_other : awaits second (md_release first bound).state ≡ Ok 0
release_leaves_the_other = refl

-- an operation that waits names its descriptors
abbrev put : PutArgs
put = sending NoAck

abbrev released : Handle → TriggeredOp → Result (Unit {0}) NiFault
released md d = (md_release md (triggered d first 1 bound).state).answer

put_names : released first (Put put) ≡ Err InUse
put_names = refl

put_names_no_other : released second (Put put) ≡ Ok tt
put_names_no_other = refl

get_names : released second (Get fetching) ≡ Err InUse
get_names = refl

atomic_names : released first (Atomic put Sum U16) ≡ Err InUse
atomic_names = refl

fetch_names_source : released first (FetchAtomic fetching put Sum U16) ≡ Err InUse
fetch_names_source = refl

fetch_names_goal : released second (FetchAtomic fetching put Sum U16) ≡ Err InUse
fetch_names_goal = refl

swap_names_source : released first (Swap fetching put Cswap U16 1) ≡ Err InUse
swap_names_source = refl

swap_names_goal : released second (Swap fetching put Cswap U16 1) ≡ Err InUse
swap_names_goal = refl

younger_action_names : (md_release second (triggered (Get fetching) first 1 (triggered (Put put) first 1 bound).state).state).answer ≡ Err
    InUse
younger_action_names = refl

increment_names_none : released first (Inc second (successes 1)) ≡ Ok tt
increment_names_none = refl

-- ---- starts: of unknown descriptors, and past the descriptor
abbrev lost_put : PutArgs
lost_put = record put { md = unknown }

abbrev lost_get : GetArgs
lost_get = record fetching { md = unknown }

abbrev long_put : PutArgs
long_put = record put { local_offset = 5 }

abbrev long_get : GetArgs
long_get = record fetching { local_offset = 7 }

abbrev start_fault : TriggeredOp → Option NiFault
start_fault d = fault_of (start d bound).answer

abbrev started_by : PutArgs → GetArgs → List TriggeredOp
started_by a g = Put a ∷ Get g ∷ Atomic a Sum U16 ∷ FetchAtomic g a Sum U16 ∷ Swap g a Cswap U16 1 ∷ []

all_start : map start_fault (started_by put fetching) ≡ None ∷ None ∷ None ∷ None ∷ None ∷ []
unfolding started
all_start = refl

source_is_stale : map start_fault (started_by lost_put fetching) ≡ Some Stale ∷ None ∷ Some Stale ∷ Some Stale ∷ Some Stale ∷ []
unfolding started
source_is_stale = refl

destination_is_stale : map start_fault (started_by put lost_get) ≡ None ∷ Some Stale ∷ None ∷ Some Stale ∷ Some Stale ∷ []
unfolding started
destination_is_stale = refl

past_the_source :
    map start_fault (started_by long_put fetching)
    ≡ Some OutOfRegion ∷ None ∷ Some OutOfRegion ∷ Some OutOfRegion ∷ Some OutOfRegion ∷ []
unfolding started
past_the_source = refl

past_the_destination : map start_fault (started_by put long_get) ≡ None ∷ Some OutOfRegion ∷ None ∷ Some OutOfRegion ∷ Some OutOfRegion ∷ []
unfolding started
past_the_destination = refl

to_the_ends :
    map start_fault (started_by (record put { local_offset = 4 }) (record fetching { local_offset = 6 }))
    ≡ None ∷ None ∷ None ∷ None ∷ None ∷ []
unfolding started
to_the_ends = refl

stale_before_out_of_region :
    map start_fault (started_by long_put lost_get)
    ≡ Some OutOfRegion ∷ Some Stale ∷ Some OutOfRegion ∷ Some Stale ∷ Some Stale ∷ []
unfolding started
stale_before_out_of_region = refl

-- ---- triggered operations
abbrev trigger_fault : TriggeredOp → Option NiFault
trigger_fault d = fault_of (triggered d first 1 bound).answer

all_wait : map trigger_fault (started_by put fetching) ≡ None ∷ None ∷ None ∷ None ∷ None ∷ []
all_wait = refl

source_to_wait_for : map trigger_fault (started_by lost_put fetching) ≡ Some Stale ∷ None ∷ Some Stale ∷ Some Stale ∷ Some Stale ∷ []
source_to_wait_for = refl

goal_to_wait_for : map trigger_fault (started_by put lost_get) ≡ None ∷ Some Stale ∷ None ∷ Some Stale ∷ Some Stale ∷ []
goal_to_wait_for = refl

source_that_holds_it :
    map trigger_fault (started_by long_put fetching)
    ≡ Some OutOfRegion ∷ None ∷ Some OutOfRegion ∷ Some OutOfRegion ∷ Some OutOfRegion ∷ []
source_that_holds_it = refl

goal_that_holds_it : map trigger_fault (started_by put long_get) ≡ None ∷ Some OutOfRegion ∷ None ∷ Some OutOfRegion ∷ Some OutOfRegion ∷ []
goal_that_holds_it = refl

no_counter_to_wait_on : (triggered (Put put) unknown 1 bound).answer ≡ Err Stale
no_counter_to_wait_on = refl

counters_named :
    map trigger_fault (Inc unknown (successes 1) ∷ Set unknown (successes 1) ∷ Inc second (successes 1) ∷ Set second (successes 1) ∷ [])
    ≡ Some Stale ∷ Some Stale ∷ None ∷ None ∷ []
counters_named = refl

abbrev past : Count
past = record { success = top; failure = 1 }

abbrev at_end : Count
at_end = record { success = top - 1; failure = 1 }

ends_of_counts :
    map trigger_fault (Inc second past ∷ Set second past ∷ Inc second at_end ∷ Set second at_end ∷ [])
    ≡ Some CountFull ∷ Some CountFull ∷ None ∷ None ∷ []
ends_of_counts = refl

-- as many wait as there may be
abbrev crowded : State
crowded = record bound { pending = record (triggered (Inc second (successes 1)) first 1 bound).state.pending { limit = 1 } }

abbrev crowded_fault : TriggeredOp → Option NiFault
crowded_fault d = fault_of (triggered d first 1 crowded).answer

-- the lowest number first
no_room_to_wait :
    map crowded_fault (Put put ∷ Put long_put ∷ Inc second past ∷ Put lost_put ∷ [])
    ≡ Some NoSpace ∷ Some NoSpace ∷ Some NoSpace ∷ Some Stale ∷ []
no_room_to_wait = refl

abbrev numbered : ℕ → State
numbered n = record bound { pending = record bound.pending { given = n } }

last_number : (triggered (Put put) first 1 (numbered (2 ^ 32 - 2))).answer ≡ Ok (2 ^ 32 - 2)
last_number = refl

no_number_left : (triggered (Put put) first 1 (numbered (2 ^ 32 - 1))).answer ≡ Err NoSpace
no_number_left = refl

refused_uses_no_number : (triggered (Put put) first 1 (triggered (Put long_put) first 1 bound).state).answer ≡ Ok 0
refused_uses_no_number = refl

-- ---- appends
abbrev append_fault_of : ℕ → Entry → State → Option NiFault
append_fault_of pt e s = fault_of (me_append 2 pt Priority e s).answer

index_to_append_to : append_fault_of 1 (entry 0 4) two_indices ≡ Some Stale
unfolding append
index_to_append_to = refl

counter_of_an_entry : append_fault_of 2 (record (entry 0 4) { ct = Some unknown }) two_indices ≡ Some Stale
unfolding append
counter_of_an_entry = refl

part_past_the_region : append_fault_of 2 (entry 14 3) two_indices ≡ Some OutOfRegion
unfolding append
part_past_the_region = refl

part_to_the_end : append_fault_of 2 (entry 14 2) two_indices ≡ None
unfolding append
part_to_the_end = refl

empty_part : append_fault_of 2 (entry 16 0) two_indices ≡ None
unfolding append
empty_part = refl

stamped_last :
    (me_append 2 2 Priority (entry 0 4) (record two_indices { entries_given = top - 1 })).answer
    ≡ Ok (IsLinked (handle 2 (top - 1)))
unfolding append
stamped_last = refl

no_entry_stamp_left : append_fault_of 2 (entry 0 4) (record two_indices { entries_given = top }) ≡ Some NoSpace
unfolding append
no_entry_stamp_left = refl

-- two entries may be linked, one in each list of different indices
abbrev opened_for_two : State
opened_for_two = (pt_alloc 1 None (pt_alloc 0 None (opened 1 4 (record many { entries = 2 }) region)).state).state

abbrev full_of_entries : State
full_of_entries = (me_append 1 1 Priority (entry 0 4) (me_append 0 0 Overflow (entry 0 4) opened_for_two).state).state

second_is_linked :
    (me_append 1 1 Priority (entry 0 4) (me_append 0 0 Overflow (entry 0 4) opened_for_two).state).answer
    ≡ Ok (IsLinked second)
unfolding append
second_is_linked = refl

no_third_entry : append_fault_of 1 (entry 0 17) full_of_entries ≡ Some NoSpace
unfolding append
no_third_entry = refl

stale_before_no_third : append_fault_of 2 (entry 0 17) full_of_entries ≡ Some Stale
unfolding append
stale_before_no_third = refl

-- also where a header would be found, and the entry not be linked
no_room_for_a_header :
    append_fault_of 0 (once (entry 0 4)) (target full_of_entries (message (record (asks PutKind 1) { pt = 0 }) (1 ∷ []))).state
    ≡ Some NoSpace
unfolding target request append
no_room_for_a_header = refl

-- a refused append changes nothing
refused_append : (me_append 2 1 Priority (entry 0 17) full_of_entries).state ≡ full_of_entries
unfolding append
refused_append = refl
