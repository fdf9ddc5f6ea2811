-- The two lists of a portal table index, as a contract sees them (Portals 4.3, match lists).
use Rattle.std.specs.Prelude.{ℕ, ◌+◌, Bool, true, false, ◌||◌, List, map, length, Option, Some, None, find}
use Rattle.std.specs.Borrow.{Bor}
use Rattle.ptl_types.specs.declared.handles.Handle.{Handle}
use Rattle.ptl_types.specs.declared.headers.Header.{Header}
use Rattle.ptl_types.specs.declared.entries.Entry.{Entry}
use Rattle.ptl_types.specs.declared.entries.List.{List as EntryList}
use Rattle.ptl_types.specs.declared.entries.List.TheVariants.{Priority, Overflow}
use Rattle.ptl_types.specs.Handles.{same_handle}
use Rattle.chain_list.specs.Chain.{Keyed}
use Rattle.ni_model.specs.declared.Linked.{Linked}
use Rattle.ni_model.specs.declared.Found.{Found}
use Rattle.ni_model.specs.Lists.{fits, unlinked, advanced}
use Rattle.ni_model.specs.Arrive.{or_else}
use Rattle.match_lists.specs.Buckets.{candidates_in}
use Rattle.ni_model.specs.Calls.{slot_in}

-- each list in the order of appending, how many entries they have room for together, how many slots a handle may have, and how
-- many entries were appended
pub record Both : Type 0 where
  pub priority : List Linked
  pub overflow : List Linked
  pub limit : ℕ
  pub slots : ℕ
  pub appended : ℕ

-- these together
abbrev pub both : List Linked → List Linked → ℕ → ℕ → ℕ → Both
both priority overflow limit slots appended =
    record { priority = priority; overflow = overflow; limit = limit; slots = slots; appended = appended }

-- the values of a chain's list
abbrev pub values : List (Keyed Linked) → List Linked
values xs = map (λ x. x.value) xs

-- one of the lists
abbrev pub entries : EntryList → Both → List Linked
entries Priority b = b.priority
entries Overflow b = b.overflow

-- one of the lists changed by f, and the number of appended entries
abbrev pub with_entries : EntryList → (List Linked → List Linked) → ℕ → Both → Both
with_entries Priority f n b = record b { priority = f b.priority; appended = n }
with_entries Overflow f n b = record b { overflow = f b.overflow; appended = n }

-- how many entries are linked
abbrev pub linked_count : Both → ℕ
linked_count b = length b.priority + length b.overflow

-- a linked entry has this slot
abbrev pub has_slot : ℕ → Both → Bool
has_slot slot b = slot_in slot b.priority || slot_in slot b.overflow

-- the entry of this handle
abbrev pub is_named : Handle → Linked → Bool
is_named me x = same_handle x.handle me

-- the linked entry of a handle
abbrev pub linked_as : Handle → Both → Option Linked
linked_as me b = or_else (find (is_named me) b.priority) (find (is_named me) b.overflow)

-- the lists without the entry of a handle
abbrev pub without_entry : Handle → Both → Both
without_entry me b = both (unlinked me b.priority) (unlinked me b.overflow) b.limit b.slots b.appended

-- the lists with another running offset of a handle's entry
abbrev pub advanced_to : Handle → ℕ → Both → Both
advanced_to me to b = both (advanced me to b.priority) (advanced me to b.overflow) b.limit b.slots b.appended

-- an entry with another running offset
abbrev pub running_at : ℕ → Linked → Linked
running_at to x = record { handle = x.handle; running = to; entry = x.entry }

-- how many entries of the overflow list may take a message, as far as its match bits tell: the list is asked only where it is
-- to be, and where no entry of the priority list takes the message
abbrev pub overflow_candidates : Bool → Option Linked → Header → Both → ℕ
overflow_candidates false taken h b = 0
overflow_candidates true (Some x) h b = 0
overflow_candidates true None h b = candidates_in b.limit h.match_bits b.overflow

-- how many linked entries may take the message, as far as its match bits tell, of the lists that are asked
abbrev pub candidates : Header → Bool → Both → ℕ
candidates h overflow b = candidates_in b.limit h.match_bits b.priority + overflow_candidates overflow (find (fits h) b.priority) h b

-- its entry
abbrev pub entry_of : Option Linked → Option Entry
entry_of None = None
entry_of (Some x) = Some x.entry

-- the list and the handle of what was found
abbrev pub named : Option Found → Option (EntryList × Handle)
named None = None
named (Some f) = Some (f.list, f.linked.handle)

-- an entry and its running offset
abbrev pub running_of : Option Linked → Option (Entry × ℕ)
running_of None = None
running_of (Some x) = Some (x.entry, x.running)

-- the same, after a reference
abbrev pub with_running : Option (Bor Entry × ℕ) → Option (Entry × ℕ)
with_running None = None
with_running (Some p) = Some (p.0.now, p.1)
