-- What a request does at its target: an entry is chosen and judged, and then five effects that don't look at one another
-- (Portals 4.3, matching and the operations at the target). Overflow, and what is counted and told, is this profile's own.
use Rattle.std.specs.Prelude.{ℕ, Bool, true, false, ◌&&◌, ◌||◌, ◌==◌, nat_lt, ◌+◌, ◌-◌, ◌/◌, ◌%◌, List, Option, Some, None, [], ◌∷◌, ◌++◌}
use Rattle.std.specs.Prelude.{min, if◌then◌else◌, length, find, take, slice_set}
use Rattle.ptl_types.specs.declared.handles.Handle.{Handle}
use Rattle.ptl_types.specs.declared.handles.Count.{Count}
use Rattle.ptl_types.specs.declared.elements.ElemType.{ElemType}
use Rattle.ptl_types.specs.declared.elements.AtomicOp.{AtomicOp}
use Rattle.ptl_types.specs.declared.elements.SwapOp.{SwapOp}
use Rattle.ptl_types.specs.declared.headers.Header.{Header}
use Rattle.ptl_types.specs.declared.headers.MessageKind.{MessageKind}
use Rattle.ptl_types.specs.declared.headers.MessageKind.TheVariants.{Put, Atomic, FetchAtomic, Swap, Ack as AckKind, Reply}
use Rattle.ptl_types.specs.declared.headers.AckRequest.TheVariants.{NoAck}
use Rattle.ptl_types.specs.declared.entries.List.{List as EntryList}
use Rattle.ptl_types.specs.declared.entries.List.TheVariants.{Priority, Overflow as InOverflow}
use Rattle.ptl_types.specs.declared.calls.Outcome.{Outcome}
use Rattle.ptl_types.specs.declared.calls.Outcome.TheVariants.{Matched, Overflow, Dropped, Violation}
use Rattle.ptl_types.specs.Operations.{bytes_of, swapped}
use Rattle.ptl_types.specs.Elements.{by_element, combined, part, written}
use Rattle.ptl_types.specs.Kinds.{is_put_or_atomic, is_no_ack, has_elements}
use Rattle.ptl_types.specs.Messages.{Sent, message}
use Rattle.ni_model.specs.declared.Linked.{Linked}
use Rattle.ni_model.specs.declared.Found.{Found}
use Rattle.ni_model.specs.declared.Arrived.{Arrived}
use Rattle.ni_model.specs.Tables.{Table, where_set}
use Rattle.ni_model.specs.Counts.{successes, counted}
use Rattle.ni_model.specs.Queues.{Waiting}
use Rattle.ni_model.specs.Lists.{Index, index_at, queue_of, offset_in, space_in, fits, unlinked, advanced, with_list}
use Rattle.ni_model.specs.Headers.{UnexpectedList, no_room, allows}
use Rattle.ni_model.specs.Events.{message_event, unlink_event, kind_delivered}
use Rattle.ni_model.specs.Shown.{told_of_entry}

-- ---- choose

-- the first of two, where there is one
abbrev pub or_else : {A : Type 0} → Option A → Option A → Option A
or_else None y = y
or_else (Some x) y = Some x

-- an entry with the list that it stands in
abbrev pub as_found : EntryList → Option Linked → Option Found
as_found list None = None
as_found list (Some x) = Some (record { list = list; linked = x })

-- the first of the priority entries that fits, else, where asked, the first of the overflow entries
abbrev pub first_fit : Header → Bool → List Linked → List Linked → Option Found
first_fit h asked priority overflow =
    or_else (as_found Priority (find (fits h) priority)) (if asked then as_found InOverflow (find (fits h) overflow) else None)

-- in an allocated index; the overflow list is for puts and atomics alone
abbrev pub choose : Header → Index → Option Found
choose h i = first_fit h (is_put_or_atomic h.kind) i.priority i.overflow

-- none in an index that is not allocated
abbrev pub chosen_at : Header → Option Index → Option Found
chosen_at h None = None
chosen_at h (Some i) = choose h i

-- none where the portal table index isn't allocated
abbrev pub chosen : Header → List (Option Index) → Option Found
chosen h is = chosen_at h (index_at h.pt is)

-- ---- how much is delivered, and where

-- atomics and swaps come in whole elements
abbrev pub whole : MessageKind → ElemType → ℕ → ℕ
whole kind ty n = if has_elements kind then n - n % bytes_of ty else n

-- the delivered length
abbrev pub delivered : Linked → Header → ℕ
delivered x h = whole h.kind h.ty (min h.length (space_in x h))

-- the first byte; 0 where nothing is delivered
abbrev pub place : Linked → Header → ℕ
place x h = if delivered x h == 0 then 0 else x.entry.start + offset_in x h

-- the bytes that stood there, which a get reads and a fetching operation gives back
abbrev pub old_bytes : Linked → Header → List ℕ → List ℕ
old_bytes x h memory = part (place x h) (delivered x h) memory

-- ---- 1. memory

-- by the operation that the header names
abbrev pub combined_by : Option AtomicOp → ElemType → List ℕ → List ℕ → List ℕ
combined_by None ty old new = old
combined_by (Some o) ty old new = combined o ty old new

-- by the swap that the header names, element by element
abbrev pub swapped_by : Option SwapOp → Header → List ℕ → List ℕ → List ℕ
swapped_by None h old new = old
swapped_by (Some s) h old new = by_element (swapped s h.ty h.operand) (bytes_of h.ty) (length old / bytes_of h.ty) old new

-- the bytes that an operation writes over the old ones
abbrev pub new_bytes : MessageKind → Header → List ℕ → List ℕ → List ℕ
new_bytes Atomic h old new = combined_by h.op h.ty old new
new_bytes FetchAtomic h old new = combined_by h.op h.ty old new
new_bytes Swap h old new = swapped_by h.swap h old new
new_bytes _ h old new = new

-- the operations that write at the target
abbrev pub writes : MessageKind → Bool
writes Put = true
writes Atomic = true
writes FetchAtomic = true
writes Swap = true
writes _ = false

-- a get writes nothing
abbrev pub memory_after : Linked → Sent → List ℕ → List ℕ
memory_after x m memory =
    if writes m.header.kind
    then written (place x m.header)
    (new_bytes m.header.kind m.header (old_bytes x m.header memory) (take (delivered x m.header) m.bytes)) memory
    else memory

-- ---- 2. counting events: one success for each message delivered, in either list

-- the counting event of an entry that counts communication
abbrev pub counter_of : Linked → Option Handle
counter_of x = where_set x.entry.count_comm x.entry.ct

-- one success
abbrev pub counts_after : Linked → Table Count → Table Count
counts_after x cts = counted (counter_of x) (successes 1) cts

-- ---- 3. entries

-- the running offset grows by the delivered length
abbrev pub running_after : Linked → Header → ℕ
running_after x h = x.running + delivered x h

-- a use-once entry goes with its first message, a locally managed one where less than `min_free` is left
abbrev pub is_over : Linked → Header → Bool
is_over x h = x.entry.use_once || (x.entry.manage_local && nat_lt (x.entry.length - running_after x h) x.entry.min_free)

-- a persistent entry that isn't locally managed stays as it is
abbrev pub entries_after : Linked → Header → List Linked → List Linked
entries_after x h xs =
    if is_over x h then unlinked x.handle xs
    else (if x.entry.manage_local then advanced x.handle (running_after x h) xs else xs)

-- the entry in its list
abbrev pub updated : Found → Header → Index → Index
updated f h i = with_list f.list (entries_after f.linked h) i

-- in an allocated index
abbrev pub updated_at : Found → Header → Option Index → Option Index
updated_at f h None = None
updated_at f h (Some i) = Some (updated f h i)

-- the portal table, in which one list of one index may have changed
abbrev pub indices_after : Found → Header → List (Option Index) → List (Option Index)
indices_after f h is = slice_set is h.pt (updated_at f h (index_at h.pt is))

-- ---- 4. unexpected headers: a message in the overflow list leaves one

-- the headers, with that of an overflow delivery at the end
abbrev pub headers_after : Found → Header → UnexpectedList → UnexpectedList
headers_after f h hs =
    elim f.list [
      | Priority ↦ hs
      | InOverflow ↦ record hs {
        unexpected = hs.unexpected ++ (record {
          pt = h.pt;
          header = record { entry = f.linked.handle; place = place f.linked h; delivered = delivered f.linked h; header = h };
          hidden = f.linked.entry.hidden;
        }) ∷ [];
      }
    ]

-- ---- 5. events, where the entry's options show them: the message's, in the priority list alone, and then the unlinking's

-- the event of a delivery to a priority entry
abbrev pub delivery_raised : Found → Header → Option Handle → Table Waiting → Table Waiting
delivery_raised f h eq eqs =
    elim f.list [
      | Priority ↦ told_of_entry f.linked.entry.hidden eq
          (message_event (kind_delivered h.kind) h (delivered f.linked h) (place f.linked h)) eqs
      | InOverflow ↦ eqs
    ]

-- and after it that of the unlinking
abbrev pub events_after : Found → Header → Option Handle → Table Waiting → Table Waiting
events_after f h eq eqs =
    if is_over f.linked h
    then told_of_entry f.linked.entry.hidden eq (unlink_event h.pt f.linked.entry.match_bits) (delivery_raised f h eq eqs)
    else delivery_raised f h eq eqs

-- ---- the answer: an acknowledgement where a put or an atomic asked for one, else a reply

-- the message's header with the ranks exchanged
abbrev pub ack_header : Bool → ℕ → Header → Header
ack_header ok count h = record h {
  kind = AckKind;
  source = h.target;
  target = h.source;
  offset = 0;
  length = if ok then count else 0;
  op = None;
  swap = None;
  operand = 0;
  ok = ok;
}

-- a reply's is the same but for its kind, and asks for no acknowledgement
abbrev pub reply_header : Bool → ℕ → Header → Header
reply_header ok count h = record (ack_header ok count h) { kind = Reply; ack = NoAck }

-- by the operation, and by what the message asked for
abbrev pub answer : Bool → ℕ → List ℕ → Header → Option Sent
answer ok count bytes h =
    if is_put_or_atomic h.kind
    then (if is_no_ack h.ack then None else Some (message (ack_header ok count h) []))
    else Some (message (reply_header ok count h) (if ok then bytes else []))

-- ---- a request

-- what belongs to a target: its rank, how many entries may be linked, the indices by number, the stamps given to entries, the headers
pub record Side : Type 0 where
  pub rank : ℕ
  pub limit : ℕ
  pub indices : List (Option Index)
  pub given : ℕ
  pub headers : UnexpectedList

-- and with it what is handed to a target: the region, the counting events and the event queues
pub record Parts : Type 0 where
  pub side : Side
  pub region : List ℕ
  pub cts : Table Count
  pub eqs : Table Waiting

-- these four together
abbrev pub parts : Side → List ℕ → Table Count → Table Waiting → Parts
parts side region cts eqs = record { side = side; region = region; cts = cts; eqs = eqs }

-- what is left after a request: the parts, and what became of it
pub record Received : Type 0 where
  pub parts : Parts
  pub arrived : Arrived

-- both together
abbrev pub received : Parts → Arrived → Received
received p a = record { parts = p; arrived = a }

-- a message that is dropped or a violation: its answer is not ok
abbrev pub refused : Outcome → Header → Arrived
refused outcome h = record { outcome = outcome; answer = answer false 0 [] h; counted = None }

-- the outcome of a delivery
abbrev pub outcome_in : EntryList → Outcome
outcome_in Priority = Matched
outcome_in InOverflow = Overflow

-- the overflow list
abbrev pub is_overflow : EntryList → Bool
is_overflow Priority = false
is_overflow InOverflow = true

-- the target after a delivery
abbrev pub side_after : Found → Header → Side → Side
side_after f h s = record s { indices = indices_after f h s.indices; headers = headers_after f h s.headers }

-- a delivery: the five effects and the answer
abbrev pub accepted : Parts → Sent → Found → Received
accepted p m f =
    received
    (parts
    (side_after f m.header p.side)
    (memory_after f.linked m p.region)
    (counts_after f.linked p.cts)
    (events_after f m.header (queue_of (index_at m.header.pt p.side.indices)) p.eqs))
    (record {
      outcome = outcome_in f.list;
      answer = answer true (delivered f.linked m.header) (old_bytes f.linked m.header p.region) m.header;
      counted = counter_of f.linked;
    })

-- the first match ends the search: it must allow the operation, and in the overflow list there must be room for the header
abbrev pub judged : Parts → Sent → Option Found → Received
judged p m None = received p (refused Dropped m.header)
judged p m (Some f) =
    if allows f.linked.entry m.header.kind
    then (if is_overflow f.list && no_room p.side.headers then received p (refused Dropped m.header) else accepted p m f)
    else received p (refused Violation m.header)

-- a put, get, atomic, fetching atomic or swap at its target
unfoldable pub request : Parts → Sent → Received
request p m = judged p m (chosen m.header p.side.indices)
