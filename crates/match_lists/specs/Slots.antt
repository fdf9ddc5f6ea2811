-- Entries with the list that they stand in, and where the entry of a slot stands.
use Rattle.std.specs.Prelude.{◌≡◌, ℕ, Bool, true, false, nat_eq, List, [], ◌∷◌, Option, Some, None, if◌then◌else◌}
use Rattle.ptl_types.specs.declared.handles.Handle.{Handle}
use Rattle.ptl_types.specs.declared.entries.List.{List as EntryList}
use Rattle.ptl_types.specs.declared.entries.List.TheVariants.{Priority, Overflow}
use Rattle.ptl_types.specs.Handles.{same_handle}
use Rattle.chain_list.specs.Chain.{Keyed}
use Rattle.ni_model.specs.declared.Linked.{Linked}
use Rattle.match_lists.specs.declared.lists.LinkedAt.{LinkedAt}

-- an entry, with its list
pub record Tagged : Type 0 where
  pub list : EntryList
  pub entry : Keyed Linked

abbrev pub tag : EntryList → Keyed Linked → Tagged
tag list x = record { list = list; entry = x }

abbrev pub tagged : EntryList → List (Keyed Linked) → List Tagged
tagged list [] = []
tagged list (x ∷ xs) = tag list x ∷ tagged list xs

-- its slot
abbrev pub slot_of : Tagged → ℕ
slot_of t = t.entry.value.handle.slot

abbrev pub where_tagged : Tagged → LinkedAt
where_tagged t = record { list = t.list; handle = t.entry.value.handle; key = t.entry.key }

-- no entry has the slot
abbrev pub NoSlot : ℕ → List Tagged → Type 0
NoSlot slot [] = Unit {0}
NoSlot slot (t ∷ ts) = (slot_of t ≡ slot → ⊥) × NoSlot slot ts

-- no two entries have one slot
abbrev pub SlotsApart : List Tagged → Type 0
SlotsApart [] = Unit {0}
SlotsApart (t ∷ ts) = NoSlot (slot_of t) ts × SlotsApart ts

-- where the entry of a slot stands
abbrev pub where_slot : ℕ → List Tagged → Option LinkedAt
where_slot slot [] = None
where_slot slot (t ∷ ts) = if nat_eq (slot_of t) slot then Some (where_tagged t) else where_slot slot ts

-- the same, where it is the entry of this handle
abbrev pub where_linked : Handle → Option LinkedAt → Option LinkedAt
where_linked h None = None
where_linked h (Some p) = if same_handle p.handle h then Some p else None

-- both are the same list
abbrev pub same_list : EntryList → EntryList → Bool
same_list Priority Priority = true
same_list Priority Overflow = false
same_list Overflow Priority = false
same_list Overflow Overflow = true
