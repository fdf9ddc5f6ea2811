-- What the fields of a target make of the model's lists. No public clause cites this module.
use Rattle.std.specs.Prelude.{ℕ, ◌≡◌, ◌≤◌, ◌<◌, ◌+◌, ◌-◌, ◌^◌, Bool, false, not, ◌&&◌, nat_eq, nat_le, sum_by, length, List, [], ◌∷◌}
use Rattle.std.specs.Prelude.{Option, Some, None, map, find, All, if◌then◌else◌}
use Rattle.std.specs.Borrow.{Bor}
use Rattle.ptl_types.specs.declared.handles.Handle.{Handle}
use Rattle.match_lists.specs.Lists.{Both, both, linked_count, has_slot, is_named, without_entry, advanced_to}
use Rattle.ptl_types.specs.declared.entries.List.TheVariants.{Priority, Overflow}
use Rattle.ni_model.specs.declared.Linked.{Linked}
use Rattle.ni_model.specs.declared.Found.{Found}
use Rattle.ni_model.specs.declared.IndexedHeader.{IndexedHeader}
use Rattle.ptl_types.specs.declared.headers.Header.{Header}
use Rattle.ni_model.specs.Tables.{Table, lookup, changed, without, with_new}
use Rattle.ni_model.specs.Arrive.{or_else, is_over, running_after}
use Rattle.ni_model.specs.Headers.{UnexpectedList, is_of}
use Rattle.ni_model.specs.Lists.{Index, index_at, queue_of, entries_in, is_linked_at, advanced}
use Rattle.ni_model.specs.Calls.{unlinked_in}
use Rattle.ni_objects.specs.users.Rows.{one_at, incremented, decremented, more, fewer, Counts}
use Rattle.ni_objects.specs.users.Sums.{sum_of, named_as}
use Rattle.target_engine.specs.declared.index.Index.{Index as PortalEntry}
use Rattle.target_engine.specs.declared.entry_records.EntryRecord.{EntryRecord}
use Rattle.target_engine.specs.declared.entry_records.Records.{Records}

-- an index of the model, from its queue and its lists
abbrev pub index : Option Handle → Both → Index
index eq b = record { eq = eq; priority = b.priority; overflow = b.overflow }

-- one portal table entry, and all of them
abbrev pub seen : PortalEntry → Option Index
seen i = if i.allocated then Some (index i.eq i.lists) else None

-- what a look-up lends
abbrev pub seen_ref : Option (Bor PortalEntry) → Option Index
seen_ref None = None
seen_ref (Some i) = Some (index i.now.eq i.now.lists)

-- the portal table
abbrev pub seen_in : List PortalEntry → List (Option Index)
seen_in is = map seen is

-- no entry is linked
abbrev pub AreEmpty : Both → Type 0
AreEmpty b = (b.priority ≡ []) × (b.overflow ≡ [])

-- none is where no index is allocated
abbrev pub HasLists : PortalEntry → Type 0
HasLists i = i.allocated ≡ false → AreEmpty i.lists

-- a portal table entry: its lists have room for as many entries as may be linked, and a slot for each record; they took no
-- more entries than stamps were given; they are empty where no index is allocated
pub record IsPortalEntry (most records given : ℕ) (i : PortalEntry) : Type 0 where
  pub limit : i.lists.limit ≡ most
  pub slots : i.lists.slots ≡ records
  pub at_most : i.lists.appended ≤ given
  pub empty : HasLists i

-- as it is opened
pub record IsUnused (most slots : ℕ) (i : PortalEntry) : Type 0 where
  pub free : i.allocated ≡ false
  pub lists : i.lists ≡ both [] [] most slots 0

-- a further entry of this slot may be linked
pub record MayAppend (slot : ℕ) (b : Both) : Type 0 where
  pub room : linked_count b < b.limit
  pub below : slot < b.slots
  pub free : has_slot slot b ≡ false
  pub keys : b.appended < 2 ^ 64 - 1

-- at this place
abbrev pub MayLink : ℕ → PortalEntry → Type 0
MayLink slot i = MayAppend slot i.lists

-- the linked entry of a handle in an allocated index
abbrev pub linked_in : Handle → Option Index → Option Linked
linked_in me None = None
linked_in me (Some i) = or_else (find (is_named me) i.priority) (find (is_named me) i.overflow)

-- ---- what becomes of the entry that took a message, in whichever list it is

-- in the two lists
abbrev pub updated_lists : Found → Header → Both → Both
updated_lists f h b =
    if is_over f.linked h then without_entry f.linked.handle b
    else (if f.linked.entry.manage_local then advanced_to f.linked.handle (running_after f.linked h) b else b)

-- another running offset, in both lists of an index
abbrev pub advanced_in : Handle → ℕ → Option Index → Option Index
advanced_in me to None = None
advanced_in me to (Some i) = Some (record i { priority = advanced me to i.priority; overflow = advanced me to i.overflow })

-- in an index
abbrev pub updated_in : Found → Header → Option Index → Option Index
updated_in f h o =
    if is_over f.linked h then unlinked_in f.linked.handle o
    else (if f.linked.entry.manage_local then advanced_in f.linked.handle (running_after f.linked h) o else o)

-- ---- the records of the entries: those that are linked, and those in which headers lie

-- how many entries of a list at index k pass, by handle, counting event and index
abbrev pub entries_by : (Handle → Option Handle → ℕ → Bool) → ℕ → List Linked → ℕ
entries_by p k [] = 0
entries_by p k (x ∷ xs) = (if p x.handle x.entry.ct k then 1 else 0) + entries_by p k xs

-- of one index
abbrev pub index_by : (Handle → Option Handle → ℕ → Bool) → ℕ → Option Index → ℕ
index_by p k None = 0
index_by p k (Some i) = entries_by p k i.priority + entries_by p k i.overflow

-- of the indices from k on
abbrev pub linked_by : (Handle → Option Handle → ℕ → Bool) → ℕ → List (Option Index) → ℕ
linked_by p k [] = 0
linked_by p k (i ∷ is) = index_by p k i + linked_by p (k + 1) is

-- how many headers pass
abbrev pub headers_by : (IndexedHeader → Bool) → List IndexedHeader → ℕ
headers_by p [] = 0
headers_by p (a ∷ hs) = (if p a then 1 else 0) + headers_by p hs

-- the header lies in an entry that passes
abbrev pub lies_in : (Handle → Bool) → IndexedHeader → Bool
lies_in p a = p a.header.entry

-- 1 where the entry is linked and passes
abbrev pub linked_as : (Handle → Option Handle → ℕ → Bool) → Handle → EntryRecord → ℕ
linked_as p h v = if v.linked && p h v.ct v.pt then 1 else 0

-- the headers that lie in it, where it passes
abbrev pub headers_as : (Handle → Bool) → Handle → EntryRecord → ℕ
headers_as p h v = if p h then v.headers else 0

-- nothing needs the record any more: its entry isn't linked, and no header lies in it
abbrev pub is_idle : EntryRecord → Bool
is_idle v = not v.linked && nat_eq v.headers 0

-- 1 where nothing needs it
abbrev pub idle_as : Handle → EntryRecord → ℕ
idle_as h v = if is_idle v then 1 else 0

-- the records agree with the entries that are linked and with the headers: each linked entry has one with the number of its
-- index and its counting event, each has as many headers as lie in its entry, no two are of one entry, and each is needed
pub record AreRecorded (is : List (Option Index)) (unexpected : List IndexedHeader) (by_entry : Table EntryRecord) : Type 0 where
  pub same : (p : Handle → Option Handle → ℕ → Bool) → linked_by p 0 is ≡ sum_of (linked_as p) by_entry.live
  pub lies : (p : Handle → Bool) → headers_by (lies_in p) unexpected ≡ sum_of (headers_as p) by_entry.live
  pub once : (h : Handle) → sum_of (named_as h) by_entry.live ≤ 1
  pub busy : sum_of idle_as by_entry.live ≡ 0

-- ---- what becomes of a record

-- a header more lies in its entry
abbrev pub one_more : EntryRecord → EntryRecord
one_more v = record v { headers = v.headers + 1 }

-- a header fewer
abbrev pub one_fewer : EntryRecord → EntryRecord
one_fewer v = record v { headers = v.headers - 1 }

-- its entry isn't linked any more
abbrev pub not_linked : EntryRecord → EntryRecord
not_linked v = record v { linked = false }

-- the record of an entry in the place of its old one; it goes where nothing needs it
abbrev pub recorded_anew : Handle → EntryRecord → Table EntryRecord → Table EntryRecord
recorded_anew me v t = if is_idle v then without me t else changed me (λ _. v) t

-- by what was found
abbrev pub changed_by : Handle → (EntryRecord → EntryRecord) → Option EntryRecord → Table EntryRecord → Table EntryRecord
changed_by me f None t = t
changed_by me f (Some v) t = recorded_anew me (f v) t

-- the record of an entry changed by f
abbrev pub recorded_by : Handle → (EntryRecord → EntryRecord) → Table EntryRecord → Table EntryRecord
recorded_by me f t = changed_by me f (lookup me t.live) t

-- how many headers lie in an entry
abbrev pub headers_in : Option EntryRecord → ℕ
headers_in None = 0
headers_in (Some v) = v.headers

-- the entry of a record is linked
abbrev pub is_on : Option EntryRecord → Bool
is_on None = false
is_on (Some v) = v.linked

-- its record, where it is
abbrev pub where_on : Option EntryRecord → Option EntryRecord
where_on None = None
where_on (Some v) = if v.linked then Some v else None

-- the entry in which a header lay that goes is free: no other lies in it, and it isn't linked in the overflow list
abbrev pub frees_at : List (Option Index) → Table EntryRecord → IndexedHeader → Bool
frees_at is t a = nat_le (headers_in (lookup a.header.entry t.live)) 1 && not (is_linked_at Overflow a.header.entry (index_at a.pt is))

-- ---- after a message

-- a header more in the overflow entry that took it
abbrev pub records_with_header : Found → Table EntryRecord → Table EntryRecord
records_with_header f t = elim f.list [ Priority ↦ t | Overflow ↦ recorded_by f.linked.handle one_more t ]

-- a header more waits at the index
abbrev pub waiting_after : Found → Header → List ℕ → List ℕ
waiting_after f h row = elim f.list [ Priority ↦ row | Overflow ↦ incremented h.pt row ]

-- an entry that the message unlinks is linked no longer
abbrev pub unlinked_after : Found → Header → Table EntryRecord → Table EntryRecord
unlinked_after f h t = if is_over f.linked h then recorded_by f.linked.handle not_linked t else t

-- and one entry fewer is linked
abbrev pub linked_after : Found → Header → ℕ → ℕ
linked_after f h n = if is_over f.linked h then n - 1 else n

-- the counting event that the entry of a record names, where it is linked
abbrev pub linked_ct : Option EntryRecord → Option Handle
linked_ct None = None
linked_ct (Some v) = if v.linked then v.ct else None

-- one user fewer of the counting event that an unlinked entry named
abbrev pub cts_after : Found → Header → Table EntryRecord → List ℕ → List ℕ
cts_after f h t row = if is_over f.linked h then fewer (linked_ct (lookup f.linked.handle t.live)) row else row

-- ---- the records with their rows of counts

-- a message in the overflow list left its header
abbrev pub all_with_header : Found → Header → Records → Records
all_with_header f h r = record r { by_entry = records_with_header f r.by_entry; waiting = waiting_after f h r.waiting }

-- a header went
abbrev pub without_header : IndexedHeader → Records → Records
without_header a r = record r { by_entry = recorded_by a.header.entry one_fewer r.by_entry; waiting = decremented a.pt r.waiting }

-- an entry is linked
abbrev pub linked_records : ℕ → EntryRecord → Records → Records
linked_records slot v r = record r { by_entry = with_new slot v r.by_entry; cts = more v.ct r.cts }

-- an entry isn't linked any more
abbrev pub unlinked_records : Handle → Records → Records
unlinked_records me r =
    record r { by_entry = recorded_by me not_linked r.by_entry; cts = fewer (linked_ct (lookup me r.by_entry.live)) r.cts }

-- what became of the entry that took a message
abbrev pub records_after : Found → Header → Records → Records
records_after f h r = record r { by_entry = unlinked_after f h r.by_entry; cts = cts_after f h r.by_entry r.cts }

-- what a target keeps: the records agree with its entries and headers, the lists and the table of records have room, and the
-- lists a slot for each record; `linked` counts the linked entries, and no more headers wait than may
pub record IsKept (most : ℕ) (is : List PortalEntry) (linked : ℕ) (by_entry : Table EntryRecord) (hs : UnexpectedList) : Type 0 where
  pub recorded : AreRecorded (map seen is) hs.unexpected by_entry
  pub portal_entries : All (IsPortalEntry most (most + hs.limit) by_entry.given) is
  pub limit : by_entry.limit ≡ most + hs.limit
  pub count : linked ≡ sum_by entries_in (map seen is)
  pub held : length hs.unexpected ≤ hs.limit
  pub small : hs.limit < 2 ^ 32

-- ---- what the entries and the indices name, and where headers wait, counted by slot

-- a handle of this slot is named
abbrev pub is_at : ℕ → Option Handle → Bool
is_at slot None = false
is_at slot (Some h) = nat_eq h.slot slot

-- an entry's counting event has this slot
abbrev pub counts_at : ℕ → Handle → Option Handle → ℕ → Bool
counts_at slot h ct k = is_at slot ct

-- how many linked entries name a counting event of the slot, by their records
abbrev pub ct_users : Table EntryRecord → ℕ → ℕ
ct_users by_entry slot = sum_of (linked_as (counts_at slot)) by_entry.live

-- how many indices have a queue of the slot
abbrev pub eq_users : List (Option Index) → ℕ → ℕ
eq_users is slot = sum_by (λ o. one_at (queue_of o) slot) is

-- how many headers of an index wait
abbrev pub waiting_at : List IndexedHeader → ℕ → ℕ
waiting_at unexpected pt = headers_by (is_of pt) unexpected

-- the rows of the records count the linked entries that name a counting event, and the headers that wait
pub record AreCounted (unexpected : List IndexedHeader) (r : Records) : Type 0 where
  pub cts : Counts (ct_users r.by_entry) r.cts
  pub waiting : Counts (waiting_at unexpected) r.waiting

-- what a target keeps, with its rows: each index has a place in the row of waiting headers
pub record IsWhole (most : ℕ) (is : List PortalEntry) (linked : ℕ) (r : Records) (hs : UnexpectedList) (eqs : List ℕ) : Type 0 where
  pub kept : IsKept most is linked r.by_entry hs
  pub counted : AreCounted hs.unexpected r
  pub queues : Counts (eq_users (map seen is)) eqs
  pub long : length r.waiting ≡ length is
  pub small : length is < 2 ^ 32
