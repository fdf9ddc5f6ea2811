-- Appending an entry, with the unexpected headers that it takes, and searching them: this profile's own, under the names that Portals 4.3
-- has for the calls and for what an entry says.
use Rattle.std.specs.Prelude.{ℕ, Bool, ◌||◌, not, nat_le, ◌+◌, List, Option, Some, None, [], ◌∷◌, ◌++◌, if◌then◌else◌, length, sum_by}
use Rattle.std.specs.Prelude.{is_some, slice_set}
use Rattle.ptl_types.specs.declared.handles.Handle.{Handle}
use Rattle.ptl_types.specs.declared.handles.Count.{Count}
use Rattle.ptl_types.specs.declared.entries.Entry.{Entry}
use Rattle.ptl_types.specs.declared.entries.HiddenEntryEvents.{HiddenEntryEvents}
use Rattle.ptl_types.specs.declared.entries.List.{List as EntryList}
use Rattle.ptl_types.specs.declared.entries.List.TheVariants.{Priority, Overflow}
use Rattle.ptl_types.specs.declared.entries.UnexpectedHeader.{UnexpectedHeader}
use Rattle.ptl_types.specs.declared.events.EventKind.{EventKind}
use Rattle.ptl_types.specs.declared.events.EventKind.TheVariants.{Search}
use Rattle.ptl_types.specs.declared.calls.Appended.{Appended}
use Rattle.ptl_types.specs.declared.calls.Appended.TheVariants.{Linked as IsLinked, Consumed}
use Rattle.ptl_types.specs.declared.calls.NiFault.{NiFault}
use Rattle.ptl_types.specs.declared.calls.NiFault.TheVariants.{Stale, NoSpace, OutOfRegion}
use Rattle.ptl_types.specs.Handles.{top}
use Rattle.ni_model.specs.declared.Linked.{Linked}
use Rattle.ni_model.specs.declared.IndexedHeader.{IndexedHeader}
use Rattle.ni_model.specs.Tables.{Table, handle, where_set, is_live_or_none}
use Rattle.ni_model.specs.Counts.{successes, counted}
use Rattle.ni_model.specs.Queues.{Waiting}
use Rattle.ni_model.specs.Lists.{Index, index_at, queue_of, with_list, is_linked_at, entries_in}
use Rattle.ni_model.specs.Headers.{oldest, without_oldest, found_in, left_in, names_entry}
use Rattle.ni_model.specs.Events.{header_event, kind_taken, link_event, free_event, missed_event}
use Rattle.ni_model.specs.Shown.{told_of_entry}
use Rattle.ni_model.specs.Arrive.{Side, Parts, parts}

-- ---- refusals, the lowest number first

-- the fault, where the test fails; else what comes later
abbrev pub need : Bool → NiFault → Option NiFault → Option NiFault
need test fault later = if test then later else Some fault

-- the portal table index is allocated
abbrev pub is_allocated : ℕ → Side → Bool
is_allocated pt s = is_some (index_at pt s.indices)

-- the entries that are linked, over all indices
abbrev pub linked_count : Side → ℕ
linked_count s = sum_by entries_in s.indices

-- a part that reaches past the end
abbrev pub is_within : ℕ → ℕ → ℕ → Bool
is_within start size end = nat_le (start + size) end

-- an append is refused: index or counter not live, no room or stamp, a part past the region
abbrev pub append_fault : ℕ → Entry → Parts → Option NiFault
append_fault pt e p =
    need (is_allocated pt p.side) Stale
    (need (is_live_or_none e.ct p.cts) Stale
    (need (not (nat_le p.side.limit (linked_count p.side) || nat_le top p.side.given)) NoSpace
    (need (is_within e.start e.length (length p.region)) OutOfRegion None)))

-- ---- the entry is linked at the end of its list

-- the handle of the next entry
abbrev pub next_handle : ℕ → Side → Handle
next_handle slot s = handle slot s.given

-- an entry as it is linked, with nothing taken yet
abbrev pub fresh : Handle → Entry → Linked
fresh me e = record { handle = me; running = 0; entry = e }

-- an entry at the end of a list of the index
abbrev pub linked_at : EntryList → Linked → Option Index → Option Index
linked_at list x None = None
linked_at list x (Some i) = Some (with_list list (λ xs. xs ++ x ∷ []) i)

-- the target with one entry more
abbrev pub link_side : ℕ → ℕ → EntryList → Entry → Side → Side
link_side slot pt list e s =
    record s {
      indices = slice_set s.indices pt (linked_at list (fresh (next_handle slot s) e) (index_at pt s.indices));
      given = s.given + 1;
    }

-- the event queue of an index, if it has one
abbrev pub queue_at : ℕ → Side → Option Handle
queue_at pt s = queue_of (index_at pt s.indices)

-- the linking, told by Link, where the entry shows it
abbrev pub link_entry : ℕ → ℕ → EntryList → Entry → Parts → Parts
link_entry slot pt list e p =
    record p {
      side = link_side slot pt list e p.side;
      eqs = told_of_entry e.hidden (queue_at pt p.side) (link_event pt e.match_bits) p.eqs;
    }

-- ---- headers go

-- the overflow entry that the header a names is free: it is unlinked, and none of the headers that are left names it
abbrev pub frees : Side → List IndexedHeader → IndexedHeader → Bool
frees s left a = not (is_linked_at Overflow a.header.entry (index_at a.pt s.indices) || names_entry a.header.entry left)

-- the event of a header that goes, where the entry that finds it shows it, and directly after it the freeing of the entry in which it lies,
-- where that is free and shows it
abbrev pub gone_events : EventKind → HiddenEntryEvents → List (Option Index) → Bool → IndexedHeader → Table Waiting → Table Waiting
gone_events kind o is freed a eqs =
    let with_header = told_of_entry o (queue_of (index_at a.pt is)) (header_event kind a) eqs in
    if freed then told_of_entry a.hidden (queue_of (index_at a.pt is)) (free_event a.pt) with_header else with_header

-- the same, where the headers in `left` stay
abbrev pub gone_raised : EventKind → HiddenEntryEvents → Side → List IndexedHeader → IndexedHeader → Table Waiting → Table Waiting
gone_raised kind o s left a eqs = gone_events kind o s.indices (frees s left a) a eqs

-- found headers go one after the other, while those in `stay` stay
abbrev pub each_gone : HiddenEntryEvents → Side → List IndexedHeader → List IndexedHeader → Table Waiting → Table Waiting
each_gone o s stay [] eqs = eqs
each_gone o s stay (a ∷ found) eqs = each_gone o s stay found (gone_raised (kind_taken a.header.header.kind) o s (stay ++ found) a eqs)

-- one count for each header that is taken
abbrev pub each_counted : Option Handle → List IndexedHeader → Table Count → Table Count
each_counted ct [] cts = cts
each_counted ct (a ∷ found) cts = each_counted ct found (counted ct (successes 1) cts)

-- the counting event of an entry that counts the headers it takes
abbrev pub overflow_counter : Entry → Option Handle
overflow_counter e = where_set e.count_overflow e.ct

-- the target with these headers
abbrev pub with_unexpected : List IndexedHeader → Side → Side
with_unexpected hs s = record s { headers = record s.headers { unexpected = hs } }

-- a persistent entry takes all found headers, in order of arrival
abbrev pub take_all : ℕ → Entry → Parts → Parts
take_all pt e p =
    parts
    (with_unexpected (left_in pt e p.side.headers.unexpected) p.side)
    p.region
    (each_counted (overflow_counter e) (found_in pt e p.side.headers.unexpected) p.cts)
    (each_gone e.hidden p.side (left_in pt e p.side.headers.unexpected) (found_in pt e p.side.headers.unexpected) p.eqs)

-- a use-once entry takes the oldest
abbrev pub take_oldest : ℕ → Entry → IndexedHeader → Parts → Parts
take_oldest pt e a p =
    parts
    (with_unexpected (without_oldest pt e p.side.headers.unexpected) p.side)
    p.region
    (counted (overflow_counter e) (successes 1) p.cts)
    (gone_raised (kind_taken a.header.header.kind) e.hidden p.side (without_oldest pt e p.side.headers.unexpected) a p.eqs)

-- ---- the append, where it isn't refused; `slot` is the slot that the new handle gets

-- what is left after an append: the parts, the answer, and the counting event that rose
pub record Appends : Type 0 where
  pub parts : Parts
  pub appended : Appended
  pub counted : Option Handle

-- the counter that rose: that of the entry, where a header was taken
abbrev pub counted_by : Entry → List IndexedHeader → Option Handle
counted_by e [] = None
counted_by e (a ∷ hs) = overflow_counter e

-- the entry is linked, after the headers that it took
abbrev pub linked_as : ℕ → ℕ → EntryList → Entry → List IndexedHeader → Parts → Appends
linked_as slot pt list e found p =
    record { parts = link_entry slot pt list e p; appended = IsLinked (next_handle slot p.side); counted = counted_by e found }

-- a use-once entry takes the oldest header, else it is linked
abbrev pub append_once : ℕ → ℕ → Entry → Parts → Option IndexedHeader → Appends
append_once slot pt e p None = linked_as slot pt Priority e [] p
append_once slot pt e p (Some a) = record { parts = take_oldest pt e a p; appended = Consumed a.header; counted = overflow_counter e }

-- to the priority list: by whether it is use-once or persistent
abbrev pub append_priority : ℕ → ℕ → Entry → Parts → Appends
append_priority slot pt e p =
    if e.use_once
    then append_once slot pt e p (oldest pt e p.side.headers.unexpected)
    else linked_as slot pt Priority e (found_in pt e p.side.headers.unexpected) (take_all pt e p)

-- to either list; an overflow entry takes no header
unfoldable pub append : ℕ → ℕ → EntryList → Entry → Parts → Appends
append slot pt Priority e p = append_priority slot pt e p
append slot pt Overflow e p = linked_as slot pt Overflow e [] p

-- ---- the search finds the oldest header alone, whether the entry is use-once or persistent, and deletes it where asked

-- what is left after a search, and the header that was found
pub record Searched : Type 0 where
  pub parts : Parts
  pub found : Option UnexpectedHeader

-- a search is refused where the index is not allocated
abbrev pub search_fault : ℕ → Parts → Option NiFault
search_fault pt p = need (is_allocated pt p.side) Stale None

-- the header that a search found is told, where the given entry shows it, and goes where it is to be deleted
abbrev pub found_header : ℕ → Entry → Bool → IndexedHeader → Parts → Parts
found_header pt e delete a p =
    if delete
    then record p {
      side = with_unexpected (without_oldest pt e p.side.headers.unexpected) p.side;
      eqs = gone_raised Search e.hidden p.side (without_oldest pt e p.side.headers.unexpected) a p.eqs;
    }
    else record p { eqs = told_of_entry e.hidden (queue_at pt p.side) (header_event Search a) p.eqs }

-- by what was found
abbrev pub searched_at : ℕ → Entry → Bool → Parts → Option IndexedHeader → Searched
searched_at pt e delete p None = record {
  parts = record p { eqs = told_of_entry e.hidden (queue_at pt p.side) (missed_event pt e.match_bits) p.eqs };
  found = None;
}
searched_at pt e delete p (Some a) = record { parts = found_header pt e delete a p; found = Some a.header }

-- a search of the headers of an index
unfoldable pub search : ℕ → Entry → Bool → Parts → Searched
search pt e delete p = searched_at pt e delete p (oldest pt e p.side.headers.unexpected)
