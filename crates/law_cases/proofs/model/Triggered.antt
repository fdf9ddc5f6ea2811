-- Triggered operations: which are ready, in which order and for whom, what a firing leaves, and cancelling (Portals 4.3, triggered
-- operations).
use Rattle.std.specs.Prelude.{ℕ, true, false, ◌≡◌, ◌-◌, List, [], ◌∷◌, map, Some, None, Ok, Err, refl}
use Rattle.ptl_types.specs.declared.headers.AckRequest.TheVariants.{NoAck}
use Rattle.ptl_types.specs.declared.headers.Header.{Header}
use Rattle.ptl_types.specs.declared.headers.MessageKind.TheVariants.{Put as PutKind}
use Rattle.ptl_types.specs.declared.elements.ElemType.TheVariants.{U8, U16}
use Rattle.ptl_types.specs.declared.elements.AtomicOp.TheVariants.{Sum, Max}
use Rattle.ptl_types.specs.declared.elements.SwapOp.TheVariants.{Cswap}
use Rattle.ptl_types.specs.declared.events.EventKind.TheVariants.{Send}
use Rattle.ptl_types.specs.declared.calls.PutArgs.{PutArgs}
use Rattle.ptl_types.specs.declared.calls.GetArgs.{GetArgs}
use Rattle.ptl_types.specs.declared.calls.TriggeredOp.{TriggeredOp}
use Rattle.ptl_types.specs.declared.calls.TriggeredOp.TheVariants.{Put, Get, Atomic, FetchAtomic, Swap, Inc, Set}
use Rattle.ptl_types.specs.declared.calls.NiFault.TheVariants.{CountFull}
use Rattle.ptl_types.specs.Handles.{top}
use Rattle.ptl_types.specs.Messages.{message}
use Rattle.ni_model.specs.Counts.{successes, failures}
use Rattle.ni_model.specs.Ready.{fired, is_ready, message_target, ready_numbers, ready_numbers_to, target_at}
use Rattle.ni_model.specs.Starts.{started}
use Rattle.ni_model.specs.State.{State, Posted}
use Rattle.ni_model.specs.Calls.{AnswersReady, awaits, ct_cancel, ct_get, ct_inc, ct_set, triggered, write_memory}
use Rattle.law_cases.proofs.model.Setting.{first, second}
use Rattle.law_cases.proofs.model.Wide.{base, bound_both, fetching, goal, kinds_in, sending, source}

-- the first counting event stands at 1 success and 1 failure, the second at nothing
abbrev ready : State
ready = (ct_set first (record { success = 1; failure = 1 }) (bound_both source goal)).state

abbrev put_to : ℕ → PutArgs
put_to rank = record (sending NoAck) { target = rank }

abbrev get_from : ℕ → GetArgs
get_from rank = record fetching { target = rank }

-- 0: a put to rank 3; 1: a get from rank 2, on the second counting event; 2: an increment
abbrev posted : TriggeredOp → ℕ → State → State
posted d threshold s = (triggered d first threshold s).state

abbrev two : State
two = (triggered (Get (get_from 2)) second 1 (posted (Put (put_to 3)) 2 ready)).state

abbrev three : State
three = posted (Inc second (successes 1)) 0 two

-- 3: a fetching atomic to rank 0; 4: a swap to rank 3; 5: an atomic to rank 2 that waits for one more
abbrev five : State
five = posted (Swap (get_from 3) (put_to 3) Cswap U16 7) 1 (posted (FetchAtomic (get_from 0) (put_to 0) Max U16) 1 three)

abbrev six : State
six = posted (Atomic (put_to 2) Sum U16) 3 five

ready_rising : ready_numbers six ≡ 0 ∷ 2 ∷ 3 ∷ 4 ∷ []
ready_rising = refl

one_more_success : ready_numbers (ct_inc first (successes 1) six).state ≡ 0 ∷ 2 ∷ 3 ∷ 4 ∷ 5 ∷ []
one_more_success = refl

by_the_other : ready_numbers (ct_inc second (failures 1) six).state ≡ 0 ∷ 1 ∷ 2 ∷ 3 ∷ 4 ∷ []
by_the_other = refl

-- ---- what asking for a ready one may answer: one that is, and none only where none is
answers_one : AnswersReady six (Some 3)
answers_one = refl

answers_no_other : AnswersReady six (Some 1) → ⊥
answers_no_other h = let q : false ≡ true = h in cc

answers_some : AnswersReady six None → ⊥
answers_some h = let q : true ≡ false = h 3 in cc

-- ---- whom the messages are for
targets : map (target_at six) (0 ∷ 1 ∷ 2 ∷ 3 ∷ 4 ∷ 5 ∷ 6 ∷ []) ≡ Some 3 ∷ Some 2 ∷ None ∷ Some 0 ∷ Some 3 ∷ Some 2 ∷ None ∷ []
targets = refl

set_has_no_target : message_target (Set first (successes 1)) ≡ None
set_has_no_target = refl

ready_to_three : ready_numbers_to 3 six ≡ 0 ∷ 4 ∷ []
ready_to_three = refl

ready_to_zero : ready_numbers_to 0 six ≡ 3 ∷ []
ready_to_zero = refl

-- a get and an atomic that wait
none_ready_to_two : ready_numbers_to 2 six ≡ []
none_ready_to_two = refl

-- ---- firing
abbrev left : State → List ℕ
left s = map (λ (p : Posted). p.number) s.pending.waiting

one_goes : left (fired six 3).state ≡ 0 ∷ 1 ∷ 2 ∷ 4 ∷ 5 ∷ []
unfolding fired started
one_goes = refl

not_waiting_changes_nothing : (fired base 6).state ≡ base
unfolding fired
not_waiting_changes_nothing = refl

not_waiting_sends_nothing : (fired six 6).message ≡ None
unfolding fired started
not_waiting_sends_nothing = refl

-- bytes are read as it fires
abbrev of_put : Header
of_put = record {
  kind = PutKind;
  source = 1;
  target = 3;
  pt = 4;
  match_bits = 5;
  offset = 6;
  length = 2;
  hdr_data = 77;
  op = None;
  swap = None;
  ty = U8;
  operand = 0;
  ack = NoAck;
  home = None;
  home_offset = 0;
  ok = true;
}

reads_late : (fired (write_memory 3 (1 ∷ 2 ∷ []) six) 0).message ≡ Some (message of_put (1 ∷ 2 ∷ []))
unfolding fired started
reads_late = refl

-- what a start does is done then: before, nothing is told, counted and awaited
nothing_before : awaits second six ≡ Ok 0
nothing_before = refl

untold_before : kinds_in first six ≡ []
untold_before = refl

awaited_then : awaits second (fired six 3).state ≡ Ok 1
unfolding fired started
awaited_then = refl

told_then : kinds_in first (fired six 3).state ≡ Send ∷ []
unfolding fired started
told_then = refl

counted_then : ct_get first (fired six 3).state ≡ Ok (record { success = 2; failure = 1 })
unfolding fired started
counted_then = refl

-- an increment counts on the counting event that it names, and sends nothing
increments : ct_get second (fired six 2).state ≡ Ok (successes 1)
unfolding fired started
increments = refl

increment_sends_nothing : (fired six 2).message ≡ None
unfolding fired started
increment_sends_nothing = refl

-- it stops at the end, where the host's is refused
abbrev near_the_end : State
near_the_end =
    (triggered (Inc second (record { success = 3; failure = 2 })) first 0 (ct_set second (successes (top - 2)) ready).state).state

increment_stops : ct_get second (fired near_the_end 0).state ≡ Ok (successes top)
unfolding fired started
increment_stops = refl

hosts_is_refused : (ct_inc second (record { success = 3; failure = 2 }) near_the_end).answer ≡ Err CountFull
hosts_is_refused = refl

-- success to the end, then failures as far as the sum allows
increment_is_cut :
    ct_get second (fired (ct_set second (successes (top - 4)) near_the_end).state 0).state
    ≡ Ok (record { success = top - 1; failure = 1 })
unfolding fired started
increment_is_cut = refl

-- a set replaces both
sets : ct_get first (fired (triggered (Set first (failures 4)) second 0 ready).state 0).state ≡ Ok (failures 4)
unfolding fired started
sets = refl

-- ---- cancelling
cancels_five : (ct_cancel first six).answer ≡ Ok 5
cancels_five = refl

other_stays : left (ct_cancel first six).state ≡ 1 ∷ []
other_stays = refl

cancels_one : (ct_cancel second six).answer ≡ Ok 1
cancels_one = refl

-- numbers aren't given again
next_number : (triggered (Inc second (successes 1)) first 0 (ct_cancel first six).state).answer ≡ Ok 6
next_number = refl

-- a counting event that isn't live reaches nothing
no_counter : is_ready (record six { cts = record six.cts { live = [] } }) 2 ≡ false
no_counter = refl
