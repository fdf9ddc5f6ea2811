-- When each call of an interface is refused, the lowest number first: this profile's own.
use Rattle.std.specs.Prelude.{ℕ, Bool, true, false, ◌&&◌, ◌||◌, not, nat_lt, nat_le, ◌-◌, ◌^◌, List, [], ◌∷◌, Option, Some, None, length}
use Rattle.ptl_types.specs.declared.handles.Handle.{Handle}
use Rattle.ptl_types.specs.declared.handles.Count.{Count}
use Rattle.ptl_types.specs.declared.entries.Descriptor.{Descriptor}
use Rattle.ptl_types.specs.declared.calls.NiFault.{NiFault}
use Rattle.ptl_types.specs.declared.calls.NiFault.TheVariants.{Stale, NoSpace, OutOfRegion, InUse, CountFull}
use Rattle.ptl_types.specs.declared.calls.PutArgs.{PutArgs}
use Rattle.ptl_types.specs.declared.calls.GetArgs.{GetArgs}
use Rattle.ptl_types.specs.declared.calls.TriggeredOp.{TriggeredOp}
use Rattle.ptl_types.specs.declared.calls.TriggeredOp.TheVariants.{Put, Get, Atomic, FetchAtomic, Swap, Inc, Set}
use Rattle.ptl_types.specs.Handles.{same_handle}
use Rattle.ni_model.specs.declared.Bound.{Bound}
use Rattle.ni_model.specs.declared.Linked.{Linked}
use Rattle.ni_model.specs.Tables.{Table, Live, lookup, is_live, is_live_or_none, is_full, names}
use Rattle.ni_model.specs.Counts.{passes_end, plus}
use Rattle.ni_model.specs.Queues.{Waiting}
use Rattle.ni_model.specs.Lists.{Index, index_at, is_linked, entries_in}
use Rattle.ni_model.specs.Headers.{names_entry, headers_of}
use Rattle.ni_model.specs.Arrive.{Side}
use Rattle.ni_model.specs.Append.{need, is_allocated, is_within}
use Rattle.ni_model.specs.State.{Posted, Operations}

-- ---- portal table indices

-- the queue is not live, the index is past the limit, the index is allocated
abbrev pub pt_alloc_fault : ℕ → Option Handle → Side → Table Waiting → Option NiFault
pt_alloc_fault pt eq s eqs =
    need (is_live_or_none eq eqs) Stale
    (need (nat_lt pt (length s.indices)) NoSpace
    (need (not (is_allocated pt s)) InUse None))

-- one of its lists holds an entry, or a header of it waits
abbrev pub holds_something : ℕ → Side → Bool
holds_something pt s = nat_lt 0 (entries_in (index_at pt s.indices)) || nat_lt 0 (length (headers_of pt s.headers.unexpected))

-- not allocated, in use
abbrev pub pt_free_fault : ℕ → Side → Option NiFault
pt_free_fault pt s = need (is_allocated pt s) Stale (need (not (holds_something pt s)) InUse None)

-- ---- match entries

-- the index holds the entry of this handle, in either list
abbrev pub is_linked_in : Handle → Option Index → Bool
is_linked_in me None = false
is_linked_in me (Some i) = is_linked me i.priority || is_linked me i.overflow

-- some index does
abbrev pub is_linked_anywhere : Handle → List (Option Index) → Bool
is_linked_anywhere me [] = false
is_linked_anywhere me (i ∷ is) = is_linked_in me i || is_linked_anywhere me is

-- it is not linked, or a header lies in its memory
abbrev pub unlink_fault : Handle → Side → Option NiFault
unlink_fault me s = need (is_linked_anywhere me s.indices) Stale (need (not (names_entry me s.headers.unexpected)) InUse None)

-- ---- counting events and event queues

-- an entry of the list names the counting event
abbrev pub entry_names_ct : Handle → List Linked → Bool
entry_names_ct ct [] = false
entry_names_ct ct (x ∷ xs) = names x.entry.ct ct || entry_names_ct ct xs

-- an entry of some index does
abbrev pub index_names_ct : Handle → List (Option Index) → Bool
index_names_ct ct [] = false
index_names_ct ct (None ∷ is) = index_names_ct ct is
index_names_ct ct (Some i ∷ is) = (entry_names_ct ct i.priority || entry_names_ct ct i.overflow) || index_names_ct ct is

-- an index names the event queue
abbrev pub index_names_eq : Handle → List (Option Index) → Bool
index_names_eq eq [] = false
index_names_eq eq (None ∷ is) = index_names_eq eq is
index_names_eq eq (Some i ∷ is) = names i.eq eq || index_names_eq eq is

-- a descriptor names the counting event
abbrev pub md_names_ct : Handle → List (Live Bound) → Bool
md_names_ct ct [] = false
md_names_ct ct (x ∷ xs) = names x.value.md.ct ct || md_names_ct ct xs

-- a descriptor names the event queue
abbrev pub md_names_eq : Handle → List (Live Bound) → Bool
md_names_eq eq [] = false
md_names_eq eq (x ∷ xs) = names x.value.md.eq eq || md_names_eq eq xs

-- a triggered operation names the counter that it waits on and the one that it counts on
abbrev pub action_names_ct : Handle → TriggeredOp → Bool
action_names_ct ct (Inc h by) = same_handle h ct
action_names_ct ct (Set h to) = same_handle h ct
action_names_ct ct _ = false

-- a triggered operation names the counting event
abbrev pub operation_names_ct : Handle → List Posted → Bool
operation_names_ct ct [] = false
operation_names_ct ct (p ∷ ps) = (same_handle p.ct ct || action_names_ct ct p.action) || operation_names_ct ct ps

-- an action names the descriptor
abbrev pub action_names_md : Handle → TriggeredOp → Bool
action_names_md md (Put a) = same_handle a.md md
action_names_md md (Get g) = same_handle g.md md
action_names_md md (Atomic a op ty) = same_handle a.md md
action_names_md md (FetchAtomic g a op ty) = same_handle g.md md || same_handle a.md md
action_names_md md (Swap g a op ty operand) = same_handle g.md md || same_handle a.md md
action_names_md md _ = false

-- a triggered operation does
abbrev pub operation_names_md : Handle → List Posted → Bool
operation_names_md md [] = false
operation_names_md md (p ∷ ps) = action_names_md md p.action || operation_names_md md ps

-- not live, in use
abbrev pub ct_free_fault : Handle → Table Count → List (Option Index) → Table Bound → Operations → Option NiFault
ct_free_fault ct cts indices mds ops =
    need (is_live ct cts) Stale
    (need (not (md_names_ct ct mds.live || (index_names_ct ct indices || operation_names_ct ct ops.waiting))) InUse None)

-- not live, in use
abbrev pub eq_free_fault : Handle → Table Waiting → List (Option Index) → Table Bound → Option NiFault
eq_free_fault eq eqs indices mds =
    need (is_live eq eqs) Stale (need (not (index_names_eq eq indices || md_names_eq eq mds.live)) InUse None)

-- a count of the host's that passes the counter's end
abbrev pub ct_set_fault : Handle → Count → Table Count → Option NiFault
ct_set_fault ct to cts = need (is_live ct cts) Stale (need (not (passes_end to)) CountFull None)

-- the new sum would pass the end
abbrev pub inc_passes : Option Count → Count → Bool
inc_passes None by = false
inc_passes (Some c) by = passes_end (plus by c)

-- not live, past the end
abbrev pub ct_inc_fault : Handle → Count → Table Count → Option NiFault
ct_inc_fault ct by cts = need (is_live ct cts) Stale (need (not (inc_passes (lookup ct cts.live) by)) CountFull None)

-- a table that has no room, of counters and of queues
abbrev pub alloc_fault : {A : Type 0} → Table A → Option NiFault
alloc_fault t = need (not (is_full t)) NoSpace None

-- the call names something that isn't live
abbrev pub stale_fault : {A : Type 0} → Handle → Table A → Option NiFault
stale_fault h t = need (is_live h t) Stale None

-- ---- memory descriptors

-- queue or counter not live, no room or stamp, a part past the region
abbrev pub bind_fault : Descriptor → ℕ → Table Count → Table Waiting → Table Bound → Option NiFault
bind_fault md size cts eqs mds =
    need (is_live_or_none md.eq eqs && is_live_or_none md.ct cts) Stale
    (need (not (is_full mds)) NoSpace
    (need (is_within md.start md.length size) OutOfRegion None))

-- the descriptor awaits an answer
abbrev pub awaits_something : Option Bound → Bool
awaits_something None = false
awaits_something (Some b) = nat_lt 0 b.awaits

-- what the descriptors alone refuse: it awaits an answer
abbrev pub own_release_fault : Handle → Table Bound → Option NiFault
own_release_fault md mds = need (is_live md mds) Stale (need (not (awaits_something (lookup md mds.live))) InUse None)

-- and beside that: a triggered operation names it
abbrev pub release_fault : Handle → Table Bound → Operations → Option NiFault
release_fault md mds ops =
    need (is_live md mds) Stale
    (need (not (operation_names_md md ops.waiting || awaits_something (lookup md mds.live))) InUse None)

-- ---- starts and triggered operations

-- the part named lies in the descriptor
abbrev pub holds_part : Option Bound → ℕ → ℕ → Bool
holds_part None at n = false
holds_part (Some b) at n = is_within at n b.md.length

-- the descriptors that an action names are live
abbrev pub action_is_live : TriggeredOp → Table Bound → Bool
action_is_live (Put a) mds = is_live a.md mds
action_is_live (Get g) mds = is_live g.md mds
action_is_live (Atomic a op ty) mds = is_live a.md mds
action_is_live (FetchAtomic g a op ty) mds = is_live g.md mds && is_live a.md mds
action_is_live (Swap g a op ty operand) mds = is_live g.md mds && is_live a.md mds
action_is_live _ mds = true

-- the put arguments lie in their descriptor
abbrev pub put_fits : PutArgs → Table Bound → Bool
put_fits a mds = holds_part (lookup a.md mds.live) a.local_offset a.length

-- the get arguments in theirs
abbrev pub get_fits : GetArgs → Table Bound → Bool
get_fits g mds = holds_part (lookup g.md mds.live) g.local_offset g.length

-- all that an action names does
abbrev pub action_fits : TriggeredOp → Table Bound → Bool
action_fits (Put a) mds = put_fits a mds
action_fits (Get g) mds = get_fits g mds
action_fits (Atomic a op ty) mds = put_fits a mds
action_fits (FetchAtomic g a op ty) mds = get_fits g mds && put_fits a mds
action_fits (Swap g a op ty operand) mds = get_fits g mds && put_fits a mds
action_fits _ mds = true

-- the refusals of a start that an initiator finds
abbrev pub action_fault : TriggeredOp → Table Bound → Option NiFault
action_fault d mds = need (action_is_live d mds) Stale (need (action_fits d mds) OutOfRegion None)

-- the counting event that an increment or a set names is live
abbrev pub counts_on_live : TriggeredOp → Table Count → Bool
counts_on_live (Inc ct by) cts = is_live ct cts
counts_on_live (Set ct to) cts = is_live ct cts
counts_on_live _ cts = true

-- its two numbers together pass the end
abbrev pub action_passes : TriggeredOp → Bool
action_passes (Inc ct by) = passes_end by
action_passes (Set ct to) = passes_end to
action_passes _ = false

-- the limit waits, or the numbers are used up
abbrev pub no_number : Operations → Bool
no_number ops = nat_le ops.limit (length ops.waiting) || nat_le (2 ^ 32 - 1) ops.given

-- not live, no room or number, a part past the descriptor, past the end
abbrev pub triggered_fault : TriggeredOp → Handle → Table Count → Table Bound → Operations → Option NiFault
triggered_fault d ct cts mds ops =
    need (is_live ct cts && (counts_on_live d cts && action_is_live d mds)) Stale
    (need (not (no_number ops)) NoSpace
    (need (action_fits d mds) OutOfRegion
    (need (not (action_passes d)) CountFull None)))
