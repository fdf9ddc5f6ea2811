-- The handles that a node's interface gave, in the order of their making.
use Rattle.std.specs.Prelude.{ℕ, ◌≡◌, ◌<◌, ◌≤◌, List, [], ◌∷◌, ◌++◌, length, map, slice_index_or}
use Rattle.ptl_types.specs.declared.handles.Handle.{Handle}
use Rattle.ptl_types.specs.declared.calls.Limits.{Limits}
use Rattle.ni_model.specs.Tables.{Live, handle}
use Rattle.ni_model.specs.State.{State}
use Rattle.cuts.specs.view.Slots.{Slots}

-- how many of each thing
pub record Counted : Type 0 where
  pub counters : ℕ
  pub entries : ℕ
  pub descriptors : ℕ

-- so many are no more than those
pub record Fits (n room : Counted) : Type 0 where
  pub counters : n.counters ≤ room.counters
  pub entries : n.entries ≤ room.entries
  pub descriptors : n.descriptors ≤ room.descriptors

-- as many as may be live under these limits
abbrev pub room_under : Limits → Counted
room_under limits = record { counters = limits.cts; entries = limits.entries; descriptors = limits.mds }

-- the handles of counting events, match entries and memory descriptors, and for how many of them there is room in all
pub record Handles : Type 0 where
  pub counters : List Handle
  pub entries : List Handle
  pub descriptors : List Handle
  pub room : Counted

-- nothing was made
abbrev pub no_handles : Counted → Handles
no_handles room = record { counters = []; entries = []; descriptors = []; room = room }

-- how many there are
abbrev pub counted_in : Handles → Counted
counted_in hs = record { counters = length hs.counters; entries = length hs.entries; descriptors = length hs.descriptors }

-- the slot of handle number n
abbrev pub slot_at : List Handle → ℕ → ℕ
slot_at hs n = (slice_index_or hs n (handle 0 0)).slot

-- f tells the slots of these, by their numbers
pub record Tells (f : ℕ → ℕ) (hs : List Handle) : Type 0 where
  pub slots : (n : ℕ) → n < length hs → f n ≡ slot_at hs n

-- handle number n has stamp n
pub record AreInOrder (hs : List Handle) : Type 0 where
  pub stamps : (n : ℕ) → n < length hs → (slice_index_or hs n (handle 0 0)).stamp ≡ n

-- k has the slots of all that was made; of what will be made it may say anything
pub record Agrees (k : Slots) (hs : Handles) : Type 0 where
  pub counters : Tells k.ct hs.counters
  pub entries : Tells k.me hs.entries
  pub descriptors : Tells (λ n. k.md) hs.descriptors

-- the slots of what was made, and 0 for what will be made
abbrev pub slots_of : Handles → Slots
slots_of hs = record { ct = slot_at hs.counters; me = slot_at hs.entries; md = slot_at hs.descriptors 0 }

-- a counting event more, an entry more, a descriptor more
abbrev pub with_counter_handle : Handle → Handles → Handles
with_counter_handle h hs = record hs { counters = hs.counters ++ h ∷ [] }

abbrev pub with_entry_handle : Handle → Handles → Handles
with_entry_handle h hs = record hs { entries = hs.entries ++ h ∷ [] }

abbrev pub with_descriptor_handle : Handle → Handles → Handles
with_descriptor_handle h hs = record hs { descriptors = hs.descriptors ++ h ∷ [] }

-- the handle of a live thing
abbrev pub handle_of : {A : Type 0} → Live A → Handle
handle_of x = x.handle

-- the handles are all that the interface gave
pub record AreAllOf (s : State) (hs : Handles) : Type 0 where
  pub counters : s.cts.given ≡ length hs.counters
  pub entries : s.entries_given ≡ length hs.entries
  pub descriptors : s.mds.given ≡ length hs.descriptors
  -- no counting event is ever freed
  pub live : map handle_of s.cts.live ≡ hs.counters

-- cells by rising number
pub record IsRising (cells : List ℕ) : Type 0 where
  pub below : (i j : ℕ) → i < j → j < length cells → slice_index_or cells i 0 < slice_index_or cells j 0
