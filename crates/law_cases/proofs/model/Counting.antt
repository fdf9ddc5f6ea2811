-- Counting events, triggered operations and refusals (Portals 4.3, counting events and triggered operations).
use Rattle.std.specs.Prelude.{ℕ, true, false, ◌≡◌, ◌-◌, ◌^◌, Some, None, Ok, Err, is_ok, refl}
use Rattle.ptl_types.specs.declared.calls.TriggeredOp.TheVariants.{Inc, Set, Put as PutAction}
use Rattle.ptl_types.specs.declared.calls.NiFault.TheVariants.{Stale, NoSpace, OutOfRegion, InUse, CountFull}
use Rattle.ni_model.specs.Starts.{started}
use Rattle.ni_model.specs.Counts.{successes, failures, bump}
use Rattle.ni_model.specs.Tables.{handle}
use Rattle.ni_model.specs.Ready.{is_ready, fired}
use Rattle.ni_model.specs.State.{State}
use Rattle.ni_model.specs.Calls.{pt_alloc, ct_alloc, ct_free, ct_get, ct_set, ct_inc, ct_cancel, md_bind, md_release, start, triggered}
use Rattle.law_cases.proofs.model.Setting.{new, first, second, args, part_of}

abbrev two_counters : State
two_counters = (ct_alloc 1 (ct_alloc 0 new).state).state

-- ---- an increment that waits for three
abbrev waiting : State
waiting = (triggered (Inc second (successes 1)) first 3 (ct_set first (successes 2) two_counters).state).state

number_zero : (triggered (Inc second (successes 1)) first 3 two_counters).answer ≡ Ok 0
number_zero = refl

one_below : is_ready waiting 0 ≡ false
one_below = refl

abbrev reached : State
reached = (ct_inc first (successes 1) waiting).state

at_the_threshold : is_ready reached 0 ≡ true
at_the_threshold = refl

-- failures count as well
failure_counts : is_ready (ct_inc first (failures 1) waiting).state 0 ≡ true
failure_counts = refl

abbrev done : State
done = (fired reached 0).state

firing_counts : ct_get second done ≡ Ok (successes 1)
unfolding fired
firing_counts = refl

firing_removes : is_ready done 0 ≡ false
unfolding fired
firing_removes = refl

abbrev two_more : State
two_more = (triggered (Inc second (successes 1)) first 4 (triggered (Inc second (successes 1)) first 3 done).state).state

numbers_go_on : (triggered (Inc second (successes 1)) first 3 done).answer ≡ Ok 1
unfolding fired
numbers_go_on = refl

ready_at_once : is_ready two_more 1 ≡ true
unfolding fired
ready_at_once = refl

not_yet : is_ready two_more 2 ≡ false
unfolding fired
not_yet = refl

still_named : (ct_free first two_more).answer ≡ Err InUse
unfolding fired
still_named = refl

named_by_the_action : (ct_free second two_more).answer ≡ Err InUse
unfolding fired
named_by_the_action = refl

two_cancelled : (ct_cancel first two_more).answer ≡ Ok 2
unfolding fired
two_cancelled = refl

then_free : (ct_free first (ct_cancel first two_more).state).answer ≡ Ok tt
unfolding fired
then_free = refl

-- a set by a firing replaces both numbers
set_by_firing : ct_get second (fired (triggered (Set second (failures 4)) first 0 two_counters).state 0).state ≡ Ok (failures 4)
unfolding fired
set_by_firing = refl

-- ---- the end of a count: success first, then failure
abbrev top : ℕ
top = 2 ^ 64 - 1

stops_at_the_end : bump (record { success = 3; failure = 4 }) (record { success = top - 6; failure = 2 })
    ≡ record { success = top - 3; failure = 3 }
stops_at_the_end = refl

success_goes_first : bump (record { success = 3; failure = 4 }) (record { success = top - 4; failure = 2 })
    ≡ record { success = top - 2; failure = 2 }
success_goes_first = refl

abbrev full : State
full = (ct_set first (successes top) two_counters).state

full_stays : (ct_inc first (failures 1) full).answer ≡ Err CountFull
full_stays = refl

full_is_kept : ct_get first (ct_inc first (failures 1) full).state ≡ Ok (successes top)
full_is_kept = refl

too_much : (ct_set first (record { success = top; failure = 1 }) two_counters).answer ≡ Err CountFull
too_much = refl

-- ---- refusals
two_counters_are_all : (ct_alloc 2 two_counters).answer ≡ Err NoSpace
two_counters_are_all = refl

no_such_index : (pt_alloc 2 None two_counters).answer ≡ Err NoSpace
no_such_index = refl

index_is_taken : (pt_alloc 0 None two_counters).answer ≡ Err InUse
index_is_taken = refl

past_the_region : (md_bind 0 (part_of 10 7) two_counters).answer ≡ Err OutOfRegion
past_the_region = refl

abbrev bound_one : State
bound_one = (md_bind 0 (part_of 10 6) two_counters).state

to_the_end : (md_bind 0 (part_of 10 6) two_counters).answer ≡ Ok first
to_the_end = refl

past_the_descriptor : (start (PutAction (record (args 0 0 2) { local_offset = 5 })) bound_one).answer ≡ Err OutOfRegion
unfolding started
past_the_descriptor = refl

within_the_descriptor : is_ok (start (PutAction (record (args 0 0 2) { local_offset = 4 })) bound_one).answer ≡ true
unfolding started
within_the_descriptor = refl

freed : ct_get second (ct_free second bound_one).state ≡ Err Stale
freed = refl

-- a slot is given again, a stamp isn't
stamp_goes_on : (ct_alloc 1 (ct_free second bound_one).state).answer ≡ Ok (handle 1 2)
stamp_goes_on = refl

old_is_stale : ct_get second (ct_alloc 1 (ct_free second bound_one).state).state ≡ Err Stale
old_is_stale = refl

released : (start (PutAction (record (args 0 0 2) { local_offset = 4 })) (md_release first bound_one).state).answer ≡ Err Stale
unfolding started
released = refl

operation_names_it : (md_release first (triggered (PutAction (args 0 0 2)) first 1 bound_one).state).answer ≡ Err InUse
operation_names_it = refl

-- the lowest number first
stale_before_space : (pt_alloc 2 (Some first) new).answer ≡ Err Stale
stale_before_space = refl

refused_changes_nothing : (pt_alloc 2 (Some first) new).state ≡ new
refused_changes_nothing = refl
