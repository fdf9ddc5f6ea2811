-- The linked entries of a portal table index, which of them takes a message, and what becomes of one (Portals 4.3, matching and lists).
-- What the overflow list is for is this profile's own.
use Rattle.std.specs.Prelude.{ℕ, Bool, false, not, ◌-◌, ◌+◌, ◌||◌, ◌&&◌, nat_le, List, [], ◌∷◌, map, filter, length, Option, Some, None}
use Rattle.std.specs.Prelude.{if◌then◌else◌, slice_index_or}
use Rattle.ptl_types.specs.declared.handles.Handle.{Handle}
use Rattle.ptl_types.specs.declared.headers.Header.{Header}
use Rattle.ptl_types.specs.declared.entries.List.{List as EntryList}
use Rattle.ptl_types.specs.declared.entries.List.TheVariants.{Priority, Overflow}
use Rattle.ptl_types.specs.Handles.{same_handle}
use Rattle.ptl_types.specs.Matching.{is_match}
use Rattle.ni_model.specs.declared.Linked.{Linked}

-- an allocated portal table index: its event queue and its two lists, each in the order of appending
pub record Index : Type 0 where
  pub eq : Option Handle
  pub priority : List Linked
  pub overflow : List Linked

-- the index of this number, where it is allocated
abbrev pub index_at : ℕ → List (Option Index) → Option Index
index_at pt is = slice_index_or is pt None

-- its event queue, if it has one
abbrev pub queue_of : Option Index → Option Handle
queue_of None = None
queue_of (Some i) = i.eq

-- the message's offset, and of a locally managed entry its running offset
abbrev pub offset_in : Linked → Header → ℕ
offset_in x h = if x.entry.manage_local then x.running else h.offset

-- what is left of the entry from there on: 0 where the offset is beyond the length
abbrev pub space_in : Linked → Header → ℕ
space_in x h = x.entry.length - offset_in x h

-- the entry matches, and holds the whole message where it forbids truncation
abbrev pub fits : Header → Linked → Bool
fits h x = is_match x.entry h && (not x.entry.no_truncate || nat_le h.length (space_in x h))

-- the list without the entry of this handle
abbrev pub unlinked : Handle → List Linked → List Linked
unlinked me xs = filter (λ x. not (same_handle x.handle me)) xs

-- the running offset of the entry of this handle
abbrev pub advance_one : Handle → ℕ → Linked → Linked
advance_one me to x = if same_handle x.handle me then record x { running = to } else x

-- in a list
abbrev pub advanced : Handle → ℕ → List Linked → List Linked
advanced me to xs = map (advance_one me to) xs

-- the list holds the entry of this handle
abbrev pub is_linked : Handle → List Linked → Bool
is_linked me [] = false
is_linked me (x ∷ xs) = same_handle x.handle me || is_linked me xs

-- the list named
abbrev pub list_of : EntryList → Index → List Linked
list_of Priority i = i.priority
list_of Overflow i = i.overflow

-- the index with one list changed
abbrev pub with_list : EntryList → (List Linked → List Linked) → Index → Index
with_list Priority f i = record i { priority = f i.priority }
with_list Overflow f i = record i { overflow = f i.overflow }

-- what an index holds, and of one that isn't allocated nothing
abbrev pub entries_in : Option Index → ℕ
entries_in None = 0
entries_in (Some i) = length i.priority + length i.overflow

-- in a list of an allocated index
abbrev pub is_linked_at : EntryList → Handle → Option Index → Bool
is_linked_at list me None = false
is_linked_at list me (Some i) = is_linked me (list_of list i)
