-- What each call makes of the interface, in the interface's own words.
use Rattle.std.specs.Prelude.{ℕ, ◌≡◌, ◌<◌, ◌≤◌, ◌==◌, ◌+◌, Bool, true, false, List, Option, Some, None, Result, Ok, Err, length, nat_lt}
use Rattle.std.specs.Prelude.{slice_get}
use Rattle.std.specs.Prelude.{if◌then◌else◌}
use Rattle.ptl_types.specs.declared.handles.Handle.{Handle}
use Rattle.ptl_types.specs.declared.headers.AckRequest.{AckRequest}
use Rattle.ptl_types.specs.declared.headers.AckRequest.TheVariants.{NoAck}
use Rattle.ptl_types.specs.declared.calls.PutArgs.{PutArgs}
use Rattle.ptl_types.specs.declared.calls.GetArgs.{GetArgs}
use Rattle.ptl_types.specs.declared.calls.TriggeredOp.{TriggeredOp}
use Rattle.ptl_types.specs.declared.calls.TriggeredOp.TheVariants.{Put, Get, Atomic, FetchAtomic, Swap}
use Rattle.ptl_types.specs.declared.elements.AtomicOp.{AtomicOp}
use Rattle.ptl_types.specs.declared.elements.ElemType.{ElemType}
use Rattle.ptl_types.specs.declared.elements.SwapOp.{SwapOp}
use Rattle.ptl_types.specs.declared.calls.Delivered.{Delivered}
use Rattle.ptl_types.specs.declared.calls.Outcome.{Outcome}
use Rattle.ptl_types.specs.declared.calls.Outcome.TheVariants.{Matched, Overflow, Answered, Dropped, Violation}
use Rattle.ptl_types.specs.declared.calls.Limits.{Limits}
use Rattle.ptl_types.specs.declared.calls.NiFault.{NiFault}
use Rattle.ptl_types.specs.declared.entries.Descriptor.{Descriptor}
use Rattle.ptl_types.specs.declared.entries.Entry.{Entry}
use Rattle.ptl_types.specs.declared.entries.List.{List as EntryList}
use Rattle.ptl_types.specs.declared.calls.Appended.{Appended}
use Rattle.ptl_types.specs.Elements.{part}
use Rattle.ptl_types.specs.Messages.{Sent}
use Rattle.ni_model.specs.Calls.{Makes, MayLackMemory, ct_alloc, ends, entry_taken, eq_alloc, md_bind, me_append, start, triggered}
use Rattle.ni_model.specs.Calls.{write_memory}
use Rattle.ni_model.specs.Ready.{fired, fires, is_ready, ready_numbers}
use Rattle.ni_model.specs.State.{State, opened, target}
use Rattle.ni_model.specs.Tables.{has_slot}
use Rattle.portals_ni.specs.Answers.{MakesIfMemory, as_started}
use Rattle.portals_ni.specs.Fit.{FitLimits}
use Rattle.guarded_ni.specs.declared.faults.CallFault.{CallFault}
use Rattle.guarded_ni.specs.declared.faults.Misuse.{Misuse}
use Rattle.guarded_ni.specs.declared.faults.Misuse.TheVariants.{Elsewhere, NoRoom, NotReady, OutsideRegion}
use Rattle.guarded_ni.specs.Guarded.{Guards, NotOpened, Tests}
use Rattle.guarded_ni.specs.Misuses.{start_misuse, unless}
use Rattle.c_interface.specs.declared.messages.CMessage.{CMessage}
use Rattle.c_interface.specs.declared.starts.StartOp.{StartOp}
use Rattle.c_interface.specs.declared.starts.StartOp.TheVariants.{Put as SentPut, Get as SentGet, Atomic as SentAtomic}
use Rattle.c_interface.specs.declared.starts.StartOp.TheVariants.{FetchAtomic as SentFetchAtomic, Swap as SentSwap}
use Rattle.c_interface.specs.Forms.{one_number}
use Rattle.c_interface.specs.Messages.{handed}
use Rattle.c_interface.specs.Over.{Called, Over, Tells}
use Rattle.c_interface.specs.Statuses.{fault_number, misuse_number}

-- ---- opening, closing and the region

-- opened over a copy of the region; or the handle held one already; or it isn't opened, for want of memory or for a fault
pub data Opens (rank ranks : ℕ) (l : Limits) (region : List ℕ) : Option State → Option State → ℕ → Type 0 where
  Opened : rank < ranks → FitLimits l → Opens rank ranks l region None (Some (opened rank ranks l region)) 0
  Held_one : (s : State) → Opens rank ranks l region (Some s) (Some s) 33
  Unopened : (fault : CallFault) → NotOpened rank ranks l fault → Opens rank ranks l region None None (fault_number fault)
  Lacking : Opens rank ranks l region None None 6

-- there is none afterwards, and the status tells whether there was one
abbrev pub Closes : Option State → Option State → ℕ → Type 0
Closes None after status = (after ≡ None) × (status ≡ 32)
Closes (Some s) after status = (after ≡ None) × (status ≡ 0)

-- the register of a number
abbrev pub register : ℕ → State → Option ℕ
register n s = if n == 0 then Some s.drops else if n == 1 then Some s.violations else None

-- a number goes out, where there is one
abbrev pub Shows : Option ℕ → ℕ → ℕ → ℕ → Type 0
Shows None old new status = (status ≡ 35) × (new ≡ old)
Shows (Some n) old new status = (status ≡ 0) × (new ≡ n)

-- the host writes a part of the region
abbrev pub Writes : ℕ → List ℕ → State → State → Result (Unit {0}) Misuse → Type 0
Writes at bytes s t r =
    Tests (if nat_lt (length s.memory) (at + length bytes) then Some OutsideRegion else None) s t (λ _. t ≡ write_memory at bytes s) r

-- and reads one, as long as the buffer, if it lies in the region
abbrev pub ReadsPart : Bool → ℕ → State → List ℕ → List ℕ → ℕ → Type 0
ReadsPart true at s old new status = (status ≡ 23) × (new ≡ old)
ReadsPart false at s old new status = (status ≡ 0) × (new ≡ part at (length old) s.memory)

-- ---- things of the interface

abbrev pub AllocatesCt : State → State → Result Handle NiFault → Type 0
AllocatesCt s t r = Makes (λ slot. has_slot slot s.cts.live) (λ slot. ct_alloc slot s) (ends t r)

abbrev pub AllocatesEq : ℕ → State → State → Result Handle CallFault → Type 0
AllocatesEq room s t r =
    Guards (unless (nat_lt 0 room) NoRoom) s t
    (λ a. MakesIfMemory (λ slot. has_slot slot s.eqs.live) (λ slot. eq_alloc slot room s) s (ends t a)) r

abbrev pub Binds : Descriptor → State → State → Result Handle NiFault → Type 0
Binds md s t r = Makes (λ slot. has_slot slot s.mds.live) (λ slot. md_bind slot md s) (ends t r)

abbrev pub Appends : ℕ → EntryList → Entry → State → State → Result Appended NiFault → Type 0
Appends pt list entry s t r =
    Makes (entry_taken s.indices t.headers.unexpected) (λ slot. me_append slot pt list entry s) (ends t r)

-- ---- starts and triggered operations

abbrev pub put_args : Handle → ℕ → ℕ → AckRequest → ℕ → ℕ → ℕ → ℕ → ℕ → PutArgs
put_args md at length ack rank pt bits there told = record {
  md = md;
  local_offset = at;
  length = length;
  ack = ack;
  target = rank;
  pt = pt;
  match_bits = bits;
  remote_offset = there;
  hdr_data = told;
}

abbrev pub get_args : Handle → ℕ → ℕ → ℕ → ℕ → ℕ → ℕ → GetArgs
get_args md at length rank pt bits there = record {
  md = md;
  local_offset = at;
  length = length;
  target = rank;
  pt = pt;
  match_bits = bits;
  remote_offset = there;
}

-- the half of a fetching operation that is sent, beside the one that comes back
abbrev pub sent_with : GetArgs → Handle → ℕ → ℕ → PutArgs
sent_with g md at told = put_args md at g.length NoAck g.target g.pt g.match_bits g.remote_offset told

-- the two fetching operations, by the half that comes back, and where and with what the other is sent
abbrev pub fetches : GetArgs → Handle → ℕ → ℕ → AtomicOp → ElemType → TriggeredOp
fetches back md at told op ty = FetchAtomic back (sent_with back md at told) op ty

abbrev pub swaps : GetArgs → Handle → ℕ → ℕ → SwapOp → ElemType → ℕ → TriggeredOp
swaps back md at told op ty operand = Swap back (sent_with back md at told) op ty operand

-- what is started at once, as an action
abbrev pub action_of : StartOp → TriggeredOp
action_of (SentPut args) = Put args
action_of (SentGet args) = Get args
action_of (SentAtomic args op ty) = Atomic args op ty
action_of (SentFetchAtomic back args op ty) = FetchAtomic back args op ty
action_of (SentSwap back args op ty operand) = Swap back args op ty operand

abbrev pub Starts : TriggeredOp → State → State → Result Sent CallFault → Type 0
Starts action s t r =
    Guards (start_misuse action s.ranks s.limits) s t (λ a. MayLackMemory (start action s) s (ends t (as_started a))) r

abbrev pub Posts : TriggeredOp → Handle → ℕ → State → State → Result ℕ CallFault → Type 0
Posts action ct threshold s t r =
    Guards (start_misuse action s.ranks s.limits) s t (λ a. MayLackMemory (triggered action ct threshold s) s (ends t a)) r

-- a triggered operation, whose number goes out
abbrev pub PostsTold : TriggeredOp → Handle → ℕ → ℕ → ℕ → Option State → Option State → ℕ → Type 0
PostsTold action ct threshold old new before after status = Called (Posts action ct threshold) fault_number one_number old new before after
    status

-- with less room than for the longest message the call isn't made
abbrev pub Roomy : {Out : Type 0} → Bool → Out → Out → State → State → ℕ → Type 0 → Type 0
Roomy true old new s t status made = (status ≡ 34) × ((new ≡ old) × (t ≡ s))
Roomy false old new s t status made = made

-- a start, whose message is handed out
abbrev pub Sends : TriggeredOp → CMessage × List ℕ → CMessage × List ℕ → Option State → Option State → ℕ → Type 0
Sends action old new before after status =
    Over (λ s t. Roomy (nat_lt (length old.1) s.limits.msg) old new s t status
    (Tells (Starts action s t) fault_number handed old new status))
    old new before after status

-- ---- what is ready, and what arrives

-- the operation of this number is fired
abbrev pub Fires : ℕ → State → State → Result (Option Sent) Misuse → Type 0
Fires number s t r = Tests (unless (is_ready s number) NotReady) s t (λ made. fires t made ≡ fired s number) r

-- whether it made a message, and the message
abbrev pub fired_told : Option Sent → ℕ × (CMessage × List ℕ) → ℕ × (CMessage × List ℕ)
fired_told None old = (0, old.1)
fired_told (Some m) old = (1, handed m old.1)

abbrev pub FiresTold : ℕ → ℕ × (CMessage × List ℕ) → ℕ × (CMessage × List ℕ) → Option State → Option State → ℕ → Type 0
FiresTold number old new before after status =
    Over (λ s t. Roomy (nat_lt (length old.1.1) s.limits.msg) old new s t status (Tells (Fires number s t) misuse_number fired_told old
    new status))
    old new before after status

-- the number at a position among those that are ready
abbrev pub ReadyAt : ℕ → State → State → Result ℕ Misuse → Type 0
ReadyAt i s t r = (t ≡ s) × Tests (unless (nat_lt i (length (ready_numbers s))) NotReady) s s (λ n. slice_get (ready_numbers s) i ≡ Some
    n) r

-- a message is delivered
abbrev pub Receives : Sent → State → State → Result Delivered Misuse → Type 0
Receives m s t r = Tests (unless (m.header.target == s.rank) Elsewhere) s t (λ d. record { state = t; delivered = d } ≡ target s m) r

abbrev pub outcome_number : Outcome → ℕ
outcome_number Matched = 0
outcome_number Overflow = 1
outcome_number Answered = 2
outcome_number Dropped = 3
outcome_number Violation = 4

-- what became of it, whether it asked for an answer, and the answer
abbrev pub delivered_told : Delivered → ℕ × (ℕ × (CMessage × List ℕ)) → ℕ × (ℕ × (CMessage × List ℕ))
delivered_told d old = (outcome_number d.outcome, fired_told d.answer old.1)

-- the numbers are read as a message; an answer is at most as long as the request, and wants room
pub data Arrives (read : Result Sent ℕ → Type 0) (room : ℕ) (old new : ℕ × (ℕ × (CMessage × List ℕ))) (before after : Option State)
    (status : ℕ) : Type 0 where
  Misread : read (Err status) → new ≡ old → after ≡ before → Arrives read room old new before after status
  Cramped : (m : Sent) → read (Ok m) → room < m.header.length → status ≡ 34 → new ≡ old → after ≡ before
      → Arrives read room old new before after status
  Read : (m : Sent) → read (Ok m) → m.header.length ≤ room → Called (Receives m) misuse_number delivered_told old new before after status
      → Arrives read room old new before after status
