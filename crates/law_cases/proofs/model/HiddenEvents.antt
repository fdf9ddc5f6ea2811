-- What the options of entries and descriptors hide: nothing where none is set, and the kinds of all events that one state tells, by each
-- option.
use Rattle.std.specs.Prelude.{Bool, true, false, ◌≡◌, ◌&&◌, ◌||◌, not, if◌then◌else◌, Option, List, [], ◌∷◌, Some, None, refl}
use Rattle.std.proofs.Common.{ap}
use Rattle.ptl_types.specs.declared.handles.Handle.{Handle}
use Rattle.ptl_types.specs.declared.headers.AckRequest.TheVariants.{Ack}
use Rattle.ptl_types.specs.declared.headers.MessageKind.TheVariants.{Ack as AckKind}
use Rattle.ptl_types.specs.declared.entries.HiddenEntryEvents.{HiddenEntryEvents}
use Rattle.ptl_types.specs.declared.entries.HiddenDescriptorEvents.{HiddenDescriptorEvents}
use Rattle.ptl_types.specs.declared.entries.TheConstants.HiddenEntryEvents as hidden_entry_events
use Rattle.ptl_types.specs.declared.entries.TheConstants.HiddenDescriptorEvents as hidden_descriptor_events
use Rattle.ptl_types.specs.declared.entries.List.TheVariants.{Priority, Overflow as InOverflow}
use Rattle.ptl_types.specs.declared.events.Event.{Event}
use Rattle.ptl_types.specs.declared.events.EventKind.{EventKind}
use Rattle.ptl_types.specs.declared.events.EventKind.TheVariants.{Put as PutEvent, PutOverflow, Link, AutoUnlink, AutoFree, Search}
use Rattle.ptl_types.specs.declared.events.EventKind.TheVariants.{Send, Ack as AckEvent, Get, Atomic, FetchAtomic, AtomicOverflow, Reply}
use Rattle.ptl_types.specs.declared.calls.TriggeredOp.TheVariants.{Put}
use Rattle.ptl_types.specs.Messages.{Sent, message}
use Rattle.ni_model.specs.Tables.{Table}
use Rattle.ni_model.specs.Queues.{Waiting, raised}
use Rattle.ni_model.specs.Shown.{entry_hides, descriptor_hides, told_of_entry, told_of_descriptor}
use Rattle.ni_model.specs.Answers.{answered}
use Rattle.ni_model.specs.Append.{append, search}
use Rattle.ni_model.specs.Arrive.{request, ack_header}
use Rattle.ni_model.specs.Starts.{started}
use Rattle.ni_model.specs.State.{State, target}
use Rattle.ni_model.specs.Calls.{eq_alloc, me_append, me_search, pt_alloc, start}
use Rattle.law_cases.proofs.model.Setting.{entry, first, local, new, once, put_at}
use Rattle.law_cases.proofs.model.Wide.{asks, bound_both, goal, kinds_in, sending, source}

-- ---- with no option set the queue that is named gets each event, as it did before there were options

abbrev none : HiddenEntryEvents
none = hidden_entry_events.NONE

abbrev shown : HiddenDescriptorEvents
shown = hidden_descriptor_events.NONE

no_kind_of_an_entry : (k : EventKind) → entry_hides none k ≡ false
no_kind_of_an_entry k =
    elim k as (λ (k : EventKind). entry_hides none k ≡ false) [
      | PutEvent ↦ refl
      | Get ↦ refl
      | Atomic ↦ refl
      | FetchAtomic ↦ refl
      | PutOverflow ↦ refl
      | AtomicOverflow ↦ refl
      | Link ↦ refl
      | AutoUnlink ↦ refl
      | AutoFree ↦ refl
      | Search ↦ refl
      | Send ↦ refl
      | AckEvent ↦ refl
      | Reply ↦ refl
    ]

no_kind_of_a_descriptor : (k : EventKind) → descriptor_hides shown k ≡ false
no_kind_of_a_descriptor k =
    elim k as (λ (k : EventKind). descriptor_hides shown k ≡ false) [
      | PutEvent ↦ refl
      | Get ↦ refl
      | Atomic ↦ refl
      | FetchAtomic ↦ refl
      | PutOverflow ↦ refl
      | AtomicOverflow ↦ refl
      | Link ↦ refl
      | AutoUnlink ↦ refl
      | AutoFree ↦ refl
      | Search ↦ refl
      | Send ↦ refl
      | AckEvent ↦ refl
      | Reply ↦ refl
    ]

all_of_an_entry : (eq : Option Handle) (e : Event) (t : Table Waiting) → told_of_entry none eq e t ≡ raised eq e t
all_of_an_entry None e t = refl
all_of_an_entry (Some eq) e t =
    ap (λ (b : Bool). raised (if not (b || (false && e.ok)) then Some eq else None) e t) (no_kind_of_an_entry e.kind)

all_of_a_descriptor : (eq : Option Handle) (e : Event) (t : Table Waiting) → told_of_descriptor shown eq e t ≡ raised eq e t
all_of_a_descriptor None e t = refl
all_of_a_descriptor (Some eq) e t =
    ap (λ (b : Bool). raised (if not (b || (false && e.ok)) then Some eq else None) e t) (no_kind_of_a_descriptor e.kind)

-- ---- an overflow entry of index 1 with these options is filled and unlinked

abbrev filled : HiddenEntryEvents → State
filled o = (target (target (me_append 0 1 InOverflow (record (local 4 (entry 0 8)) { hidden = o })
    (pt_alloc 1 (Some first) (eq_alloc 0 16 new).state).state).state (put_at 1 0 (1 ∷ 2 ∷ 3 ∷ []))).state (put_at 1 0 (4 ∷ 5 ∷ []))).state

abbrev append_once : HiddenEntryEvents → State → State
append_once o s = (me_append 1 1 Priority (record (once (entry 8 4)) { hidden = o }) s).state

-- three use-once entries with these options come; the third, which finds no header, takes a put; then one searches in vain
abbrev taken : HiddenEntryEvents → State → State
taken o s = (me_search 1 (record (entry 8 4) { hidden = o }) false
    (target (append_once o (append_once o (append_once o s))) (put_at 1 0 (6 ∷ []))).state).state

abbrev told : HiddenEntryEvents → HiddenEntryEvents → List EventKind
told behind takes = kinds_in first (taken takes (filled behind))

no_option : told none none ≡ Link ∷ AutoUnlink ∷ PutOverflow ∷ PutOverflow ∷ AutoFree ∷ Link ∷ PutEvent ∷ AutoUnlink ∷ Search ∷ []
unfolding target request append search
no_option = refl

links : told (record none { link = true }) (record none { link = true }) ≡ AutoUnlink ∷ PutOverflow ∷ PutOverflow ∷ AutoFree ∷ PutEvent
    ∷ AutoUnlink ∷ Search ∷ []
unfolding target request append search
links = refl

unlinking : told (record none { unlink = true }) (record none { unlink = true }) ≡ Link ∷ PutOverflow ∷ PutOverflow ∷ Link ∷ PutEvent
    ∷ Search ∷ []
unfolding target request append search
unlinking = refl

-- AutoFree goes by the entry in which the header lies
unlinking_of_the_taker : told none (record none { unlink = true }) ≡ Link ∷ AutoUnlink ∷ PutOverflow ∷ PutOverflow ∷ AutoFree ∷ Link
    ∷ PutEvent ∷ Search ∷ []
unfolding target request append search
unlinking_of_the_taker = refl

messages : told (record none { comm = true }) (record none { comm = true }) ≡ Link ∷ AutoUnlink ∷ PutOverflow ∷ PutOverflow ∷ AutoFree
    ∷ Link ∷ AutoUnlink ∷ Search ∷ []
unfolding target request append search
messages = refl

headers : told (record none { overflow = true }) (record none { overflow = true }) ≡ Link ∷ AutoUnlink ∷ AutoFree ∷ Link ∷ PutEvent
    ∷ AutoUnlink ∷ Search ∷ []
unfolding target request append search
headers = refl

successes : told (record none { success = true }) (record none { success = true }) ≡ Search ∷ []
unfolding target request append search
successes = refl

-- ---- a descriptor starts a put, and is told that it was dropped

abbrev asked : HiddenDescriptorEvents → State
asked o = (start (Put (sending Ack)) (bound_both (record source { hidden = o }) goal)).state

abbrev refusal : Sent
refusal = message (record (ack_header false 0 (asks AckKind 2)) { target = 1; ack = Ack; home = Some first }) []

abbrev heard : HiddenDescriptorEvents → List EventKind
heard o = kinds_in first (target (asked o) refusal).state

a_descriptor_tells : heard shown ≡ Send ∷ AckEvent ∷ []
unfolding target answered started
a_descriptor_tells = refl

starts : heard (record shown { send = true }) ≡ AckEvent ∷ []
unfolding target answered started
starts = refl

failures_are_no_successes : heard (record shown { success = true }) ≡ AckEvent ∷ []
unfolding target answered started
failures_are_no_successes = refl
