-- Every call of an interface: from the state before to the state and the answer after it. A refused call changes nothing.
use Rattle.std.specs.Prelude.{ℕ, Bool, false, ◌≡◌, ◌==◌, ◌||◌, List, [], ◌∷◌, Option, Some, None, Result, Ok, Err, IsTrue, length, map}
use Rattle.std.specs.Prelude.{filter, is_ok, slice_set}
use Rattle.ptl_types.specs.declared.handles.Handle.{Handle}
use Rattle.ptl_types.specs.declared.handles.Count.{Count}
use Rattle.ptl_types.specs.declared.entries.Entry.{Entry}
use Rattle.ptl_types.specs.declared.entries.Descriptor.{Descriptor}
use Rattle.ptl_types.specs.declared.entries.List.{List as EntryList}
use Rattle.ptl_types.specs.declared.entries.UnexpectedHeader.{UnexpectedHeader}
use Rattle.ptl_types.specs.declared.calls.NiFault.{NiFault}
use Rattle.ptl_types.specs.declared.calls.NiFault.TheVariants.{NoMemory, Stale}
use Rattle.ptl_types.specs.declared.calls.Appended.{Appended}
use Rattle.ptl_types.specs.declared.calls.EqGot.{EqGot}
use Rattle.ptl_types.specs.declared.calls.TriggeredOp.{TriggeredOp}
use Rattle.ptl_types.specs.Elements.{written}
use Rattle.ptl_types.specs.Messages.{Sent}
use Rattle.ni_model.specs.declared.Linked.{Linked}
use Rattle.ni_model.specs.declared.Bound.{Bound}
use Rattle.ni_model.specs.declared.IndexedHeader.{IndexedHeader}
use Rattle.ni_model.specs.Tables.{lookup, changed, with_new, without, handle}
use Rattle.ni_model.specs.Counts.{successes, plus}
use Rattle.ni_model.specs.Queues.{Waiting, queue, taken_from, after_take}
use Rattle.ni_model.specs.Lists.{Index, unlinked}
use Rattle.ni_model.specs.Starts.{started}
use Rattle.ni_model.specs.Ready.{is_ready, with_posted, cancelled, waits_on}
use Rattle.ni_model.specs.Append.{append, append_fault, search, search_fault}
use Rattle.ni_model.specs.State.{State, parts_of, with_parts, home_of, with_home, side_of}
use Rattle.ni_model.specs.Refusals.{pt_alloc_fault, pt_free_fault, unlink_fault, ct_free_fault, eq_free_fault, ct_set_fault, ct_inc_fault}
use Rattle.ni_model.specs.Refusals.{alloc_fault, stale_fault, bind_fault, release_fault, action_fault, triggered_fault}

-- ---- how a call ends

-- the state and the answer after a call
pub record Done (A : Type 0) : Type 0 where
  pub state : State
  pub answer : A

-- both together
abbrev pub ends : {A : Type 0} → State → A → Done A
ends s x = record { state = s; answer = x }

-- by the fault, where there is one
abbrev pub ends_by : {A : Type 0} → Option NiFault → State → State → A → Done (Result A NiFault)
ends_by (Some fault) old new x = ends old (Err fault)
ends_by None old new x = ends new (Ok x)

-- running out of memory may end a call that nothing else refuses, and changes nothing
pub data MayLackMemory {A : Type 0} (call : Done (Result A NiFault)) (old : State) : Done (Result A NiFault) → Type 0 where
  enough : MayLackMemory call old call
  lacking : IsTrue (is_ok call.answer) → MayLackMemory call old (ends old (Err NoMemory))

-- what makes a thing gives it some slot that is not taken, as by a live thing of its table
pub record Makes {A : Type 0} (taken : ℕ → Bool) (call : ℕ → A) (end : A) : Type 0 where
  pub slot : ℕ
  pub free : taken slot ≡ false
  pub ended : end ≡ call slot

-- ---- the region

-- the host writes: condition, the part lies in the region
abbrev pub write_memory : ℕ → List ℕ → State → State
write_memory start bytes s = record s { memory = written start bytes s.memory }

-- ---- portal table indices

-- an index with empty lists
abbrev pub new_index : Option Handle → Index
new_index eq = record { eq = eq; priority = []; overflow = [] }

-- an index more
abbrev pub with_index : ℕ → Option Handle → State → State
with_index pt eq s = record s { indices = slice_set s.indices pt (Some (new_index eq)) }

-- PtlPTAlloc, at an index that is asked for
abbrev pub pt_alloc : ℕ → Option Handle → State → Done (Result (Unit {0}) NiFault)
pt_alloc pt eq s = ends_by (pt_alloc_fault pt eq (side_of s) s.eqs) s (with_index pt eq s) tt

-- PtlPTFree
abbrev pub pt_free : ℕ → State → Done (Result (Unit {0}) NiFault)
pt_free pt s = ends_by (pt_free_fault pt (side_of s)) s (record s { indices = slice_set s.indices pt None }) tt

-- ---- counting events

-- a counting event more
abbrev pub with_counter : ℕ → State → State
with_counter slot s = record s { cts = with_new slot (successes 0) s.cts }

-- PtlCTAlloc
abbrev pub ct_alloc : ℕ → State → Done (Result Handle NiFault)
ct_alloc slot s = ends_by (alloc_fault s.cts) s (with_counter slot s) (handle slot s.cts.given)

-- PtlCTFree
abbrev pub ct_free : Handle → State → Done (Result (Unit {0}) NiFault)
ct_free ct s = ends_by (ct_free_fault ct s.cts s.indices s.mds s.pending) s (record s { cts = without ct s.cts }) tt

-- the thing, or Stale where it is not live
abbrev pub found_or_stale : {A : Type 0} → Option A → Result A NiFault
found_or_stale None = Err Stale
found_or_stale (Some x) = Ok x

-- PtlCTGet
abbrev pub ct_get : Handle → State → Result Count NiFault
ct_get ct s = found_or_stale (lookup ct s.cts.live)

-- PtlCTSet
abbrev pub ct_set : Handle → Count → State → Done (Result (Unit {0}) NiFault)
ct_set ct to s = ends_by (ct_set_fault ct to s.cts) s (record s { cts = changed ct (λ (c : Count). to) s.cts }) tt

-- PtlCTInc
abbrev pub ct_inc : Handle → Count → State → Done (Result (Unit {0}) NiFault)
ct_inc ct by s = ends_by (ct_inc_fault ct by s.cts) s (record s { cts = changed ct (plus by) s.cts }) tt

-- answers how many operations were cancelled
abbrev pub ct_cancel : Handle → State → Done (Result ℕ NiFault)
ct_cancel ct s =
    ends_by (stale_fault ct s.cts) s (record s { pending = cancelled ct s.pending }) (length (filter (waits_on ct) s.pending.waiting))

-- ---- event queues

-- condition, the room is at least 1
abbrev pub eq_alloc : ℕ → ℕ → State → Done (Result Handle NiFault)
eq_alloc slot room s =
    ends_by (alloc_fault s.eqs) s (record s { eqs = with_new slot (queue room [] false) s.eqs }) (handle slot s.eqs.given)

-- PtlEQFree
abbrev pub eq_free : Handle → State → Done (Result (Unit {0}) NiFault)
eq_free eq s = ends_by (eq_free_fault eq s.eqs s.indices s.mds) s (record s { eqs = without eq s.eqs }) tt

-- by the queue, where it is live
abbrev pub eq_get_at : Handle → State → Option Waiting → Done (Result EqGot NiFault)
eq_get_at eq s None = ends s (Err Stale)
eq_get_at eq s (Some q) = ends (record s { eqs = changed eq after_take s.eqs }) (Ok (taken_from q))

-- PtlEQGet
abbrev pub eq_get : Handle → State → Done (Result EqGot NiFault)
eq_get eq s = eq_get_at eq s (lookup eq s.eqs.live)

-- ---- memory descriptors

-- a descriptor that awaits nothing
abbrev pub bound : Descriptor → Bound
bound md = record { md = md; awaits = 0 }

-- a descriptor more
abbrev pub with_bound : ℕ → Descriptor → State → State
with_bound slot md s = record s { mds = with_new slot (bound md) s.mds }

-- PtlMDBind
abbrev pub md_bind : ℕ → Descriptor → State → Done (Result Handle NiFault)
md_bind slot md s = ends_by (bind_fault md (length s.memory) s.cts s.eqs s.mds) s (with_bound slot md s) (handle slot s.mds.given)

-- PtlMDRelease
abbrev pub md_release : Handle → State → Done (Result (Unit {0}) NiFault)
md_release md s = ends_by (release_fault md s.mds s.pending) s (record s { mds = without md s.mds }) tt

-- how many answers a descriptor awaits
abbrev pub awaits_of : Option Bound → Result ℕ NiFault
awaits_of None = Err Stale
awaits_of (Some b) = Ok b.awaits

-- Stale where the descriptor is not live
abbrev pub awaits : Handle → State → Result ℕ NiFault
awaits md s = awaits_of (lookup md s.mds.live)

-- ---- match entries

-- PtlMEAppend
abbrev pub me_append : ℕ → ℕ → EntryList → Entry → State → Done (Result Appended NiFault)
me_append slot pt list e s =
    let a = append slot pt list e (parts_of s) in
    ends_by (append_fault pt e (parts_of s)) s (with_parts a.parts s) a.appended

-- an index without this entry
abbrev pub unlinked_in : Handle → Option Index → Option Index
unlinked_in me None = None
unlinked_in me (Some i) = Some (record i { priority = unlinked me i.priority; overflow = unlinked me i.overflow })

-- PtlMEUnlink
abbrev pub me_unlink : Handle → State → Done (Result (Unit {0}) NiFault)
me_unlink me s = ends_by (unlink_fault me (side_of s)) s (record s { indices = map (unlinked_in me) s.indices }) tt

-- PtlMESearch
abbrev pub me_search : ℕ → Entry → Bool → State → Done (Result (Option UnexpectedHeader) NiFault)
me_search pt e delete s =
    let r = search pt e delete (parts_of s) in
    ends_by (search_fault pt (parts_of s)) s (with_parts r.parts s) r.found

-- an entry of this list has the slot
abbrev pub slot_in : ℕ → List Linked → Bool
slot_in slot [] = false
slot_in slot (x ∷ xs) = (x.handle.slot == slot) || slot_in slot xs

-- a linked entry of some index has this slot
abbrev pub entry_slot : List (Option Index) → ℕ → Bool
entry_slot [] slot = false
entry_slot (None ∷ is) slot = entry_slot is slot
entry_slot (Some i ∷ is) slot = (slot_in slot i.priority || slot_in slot i.overflow) || entry_slot is slot

-- a header lies in an entry of this slot
abbrev pub header_slot : List IndexedHeader → ℕ → Bool
header_slot [] slot = false
header_slot (a ∷ hs) slot = (a.header.entry.slot == slot) || header_slot hs slot

-- an entry of this slot is linked, or one of these headers lies in one. For an append these are the headers that it leaves: a slot is
-- free once the last of an unlinked entry has gone.
abbrev pub entry_taken : List (Option Index) → List IndexedHeader → ℕ → Bool
entry_taken is left slot = entry_slot is slot || header_slot left slot

-- ---- operations

-- put, get, atomic, fetch_atomic and swap: the message is the caller's to send
abbrev pub start : TriggeredOp → State → Done (Result (Option Sent) NiFault)
start d s =
    let r = started s.rank (home_of s) d in
    ends_by (action_fault d s.mds) s (with_home r.home s) r.message

-- answers the operation's number
abbrev pub with_operation : TriggeredOp → Handle → ℕ → State → State
with_operation d ct threshold s = record s { pending = with_posted d ct threshold s.pending }

-- the triggered forms of the operations and of PtlCTInc and PtlCTSet
abbrev pub triggered : TriggeredOp → Handle → ℕ → State → Done (Result ℕ NiFault)
triggered d ct threshold s = ends_by (triggered_fault d ct s.cts s.mds s.pending) s (with_operation d ct threshold s) s.pending.given

-- `ready` answers some ready operation, and none exactly where there is none
abbrev pub AnswersReady : State → Option ℕ → Type 0
AnswersReady s (Some t) = IsTrue (is_ready s t)
AnswersReady s None = (t : ℕ) → is_ready s t ≡ false
