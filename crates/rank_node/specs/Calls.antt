-- Which lists of calls can be made one after the other, and what they leave of an interface and of the handles that it gave.
use Rattle.std.specs.Prelude.{ℕ, suc, ◌<◌, ◌≡◌, List, [], ◌∷◌, length}
use Rattle.ptl_types.specs.declared.handles.Handle.{Handle}
use Rattle.ptl_types.specs.declared.entries.Entry.{Entry}
use Rattle.ptl_types.specs.declared.entries.Descriptor.{Descriptor}
use Rattle.ptl_types.specs.declared.entries.List.{List as EntryList}
use Rattle.ptl_types.specs.declared.calls.Limits.{Limits}
use Rattle.ptl_types.specs.declared.steps.PlannedOp.{PlannedOp}
use Rattle.ptl_types.specs.declared.steps.PlannedOp.TheVariants.{Send, BumpCell, BumpDone}
use Rattle.ptl_types.specs.declared.steps.Call.{Call}
use Rattle.ptl_types.specs.declared.steps.Call.TheVariants.{PtAlloc, CtDone, CtCell, MdBind, Overflow, MeAppend, Trigger}
use Rattle.ni_model.specs.Tables.{handle}
use Rattle.ni_model.specs.Conditions.{MayStart}
use Rattle.ni_model.specs.State.{State}
use Rattle.ni_model.specs.Calls.{with_counter, with_bound}
use Rattle.plan_core.specs.Places.{place_in}
use Rattle.cuts.specs.view.Slots.{Slots}
use Rattle.cuts.specs.view.Calls.{args_at, calls_made, sending_action, with_entry}
use Rattle.rank_node.specs.Handles.{Handles, Agrees, AreAllOf, Counted, counted_in, with_counter_handle, with_descriptor_handle}
use Rattle.rank_node.specs.Handles.{with_entry_handle}

-- ---- what each call names was made before it

-- nothing is made yet
abbrev pub none_made : Counted
none_made = record { counters = 0; entries = 0; descriptors = 0 }

-- the counter of cell c is among the first so many: that of what is done comes first
abbrev pub HasCounter : List ℕ → ℕ → ℕ → Type 0
HasCounter cells n c = (place_in cells c < length cells) × (suc (place_in cells c) < n)

-- what an act names was made
abbrev pub IsWired : List ℕ → Counted → PlannedOp → Type 0
IsWired cells n (Send local size target bits remote hdr op ty ack) = n.descriptors ≡ 1
IsWired cells n (BumpCell c) = HasCounter cells n.counters c
IsWired cells n BumpDone = 0 < n.counters

-- a message may be sent: its target is a rank, and its length within the limits
abbrev pub MaySend : ℕ → Limits → PlannedOp → Type 0
MaySend ranks limits (Send local size target bits remote hdr op ty ack) =
    MayStart (sending_action (args_at (handle 0 0) local size target bits remote hdr ack) op ty) ranks limits
MaySend ranks limits _ = Unit {0}

-- the call may be made
abbrev pub MayCall : List ℕ → ℕ → Limits → Counted → Call → Type 0
MayCall cells ranks limits n PtAlloc = Unit {0}
MayCall cells ranks limits n CtDone = n.counters ≡ 0
MayCall cells ranks limits n (CtCell c) = Unit {0}
MayCall cells ranks limits n (MdBind size remote) = (n.descriptors ≡ 0) × (0 < n.counters)
MayCall cells ranks limits n (Overflow start size bits ignored) = Unit {0}
MayCall cells ranks limits n (MeAppend c start size bits ignored) = HasCounter cells n.counters c
MayCall cells ranks limits n (Trigger c threshold act) = HasCounter cells n.counters c × IsWired cells n act × MaySend ranks limits act

-- how many things there are after it
abbrev pub count_call : Call → Counted → Counted
count_call CtDone n = record n { counters = suc n.counters }
count_call (CtCell c) n = record n { counters = suc n.counters }
count_call (MdBind size remote) n = record n { descriptors = suc n.descriptors }
count_call (Overflow start size bits ignored) n = record n { entries = suc n.entries }
count_call (MeAppend c start size bits ignored) n = record n { entries = suc n.entries }
count_call PtAlloc n = n
count_call (Trigger c threshold act) n = n

-- and after a list of calls
abbrev pub count_calls : List Call → Counted → Counted
count_calls [] n = n
count_calls (call ∷ calls) n = count_calls calls (count_call call n)

-- each call may be made where it stands
abbrev pub MayCallAll : List ℕ → ℕ → Limits → Counted → List Call → Type 0
MayCallAll cells ranks limits n [] = Unit {0}
MayCallAll cells ranks limits n (call ∷ calls) = MayCall cells ranks limits n call × MayCallAll cells ranks limits (count_call call n) calls

-- ---- what a list of calls leaves of an interface and of the handles that it gave
pub record AreMade (cells : List ℕ) (calls : List Call) (old new : State) (before after : Handles) : Type 0 where
  -- whatever the slots of what is made later: the state is that of the calls
  pub state : (k : Slots) → Agrees k after → new ≡ calls_made k cells calls old
  -- no handle is given up
  pub kept : (k : Slots) → Agrees k after → Agrees k before
  pub all : AreAllOf new after
  pub counted : counted_in after ≡ count_calls calls (counted_in before)
  pub room : after.room ≡ before.room
  pub ranks : new.ranks ≡ old.ranks
  pub limits : new.limits ≡ old.limits

-- ---- a thing that was made, and its handle

-- a counting event
pub record NewCounter (old new : State) (before after : Handles) : Type 0 where
  pub ct : Handle
  pub state : new ≡ with_counter ct.slot old
  pub stamp : ct.stamp ≡ old.cts.given
  pub left : after ≡ with_counter_handle ct before

-- a descriptor
pub record NewDescriptor (md : Descriptor) (old new : State) (before after : Handles) : Type 0 where
  pub made : Handle
  pub state : new ≡ with_bound made.slot md old
  pub left : after ≡ with_descriptor_handle made before

-- an entry
pub record NewEntry (list : EntryList) (e : Entry) (old new : State) (before after : Handles) : Type 0 where
  pub made : Handle
  pub state : new ≡ with_entry made.slot list e old
  pub left : after ≡ with_entry_handle made before
