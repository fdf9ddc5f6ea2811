-- The start of each operation: its header, its bytes, and what it does to the initiator (Portals 4.3, data movement operations). How a
-- header is made up, and what is counted and told of a start, is this profile's own.
use Rattle.std.specs.Prelude.{ℕ, true, ◌+◌, List, Option, Some, None, [], if◌then◌else◌}
use Rattle.ptl_types.specs.declared.handles.Handle.{Handle}
use Rattle.ptl_types.specs.declared.elements.ElemType.{ElemType}
use Rattle.ptl_types.specs.declared.elements.ElemType.TheVariants.{U8}
use Rattle.ptl_types.specs.declared.elements.AtomicOp.{AtomicOp}
use Rattle.ptl_types.specs.declared.elements.SwapOp.{SwapOp}
use Rattle.ptl_types.specs.declared.headers.Header.{Header}
use Rattle.ptl_types.specs.declared.headers.MessageKind.{MessageKind}
use Rattle.ptl_types.specs.declared.headers.MessageKind.TheVariants.{Put as PutKind, Get as GetKind, Atomic as AtomicKind}
use Rattle.ptl_types.specs.declared.headers.MessageKind.TheVariants.{FetchAtomic as FetchAtomicKind, Swap as SwapKind}
use Rattle.ptl_types.specs.declared.headers.AckRequest.TheVariants.{NoAck}
use Rattle.ptl_types.specs.declared.calls.PutArgs.{PutArgs}
use Rattle.ptl_types.specs.declared.calls.GetArgs.{GetArgs}
use Rattle.ptl_types.specs.declared.calls.TriggeredOp.{TriggeredOp}
use Rattle.ptl_types.specs.declared.calls.TriggeredOp.TheVariants.{Put, Get, Atomic, FetchAtomic, Swap, Inc, Set}
use Rattle.ptl_types.specs.Kinds.{is_no_ack}
use Rattle.ptl_types.specs.Elements.{part}
use Rattle.ptl_types.specs.Messages.{Sent, message}
use Rattle.ni_model.specs.declared.Bound.{Bound}
use Rattle.ni_model.specs.Tables.{Table, lookup, changed, where_set}
use Rattle.ni_model.specs.Counts.{successes, counted}
use Rattle.ptl_types.specs.Handles.{one_more}
use Rattle.ni_model.specs.Queues.{Waiting}
use Rattle.ni_model.specs.Answers.{Home, home, bound_at}
use Rattle.ni_model.specs.Events.{send_event}
use Rattle.ni_model.specs.Shown.{told_of_descriptor}

-- ---- headers

-- a put or an atomic; it has a home where it asks for an acknowledgement
abbrev pub put_header : ℕ → MessageKind → PutArgs → Option AtomicOp → ElemType → Header
put_header rank kind a op ty = record {
  kind = kind;
  source = rank;
  target = a.target;
  pt = a.pt;
  match_bits = a.match_bits;
  offset = a.remote_offset;
  length = a.length;
  hdr_data = a.hdr_data;
  op = op;
  swap = None;
  ty = ty;
  operand = 0;
  ack = a.ack;
  home = if is_no_ack a.ack then None else Some a.md;
  home_offset = 0;
  ok = true;
}

-- a get has no header data
abbrev pub get_header : ℕ → GetArgs → Header
get_header rank g = record {
  kind = GetKind;
  source = rank;
  target = g.target;
  pt = g.pt;
  match_bits = g.match_bits;
  offset = g.remote_offset;
  length = g.length;
  hdr_data = 0;
  op = None;
  swap = None;
  ty = U8;
  operand = 0;
  ack = NoAck;
  home = Some g.md;
  home_offset = g.local_offset;
  ok = true;
}

-- a fetching atomic or a swap: the reply goes to the place of the get arguments
abbrev pub fetch_header : ℕ → MessageKind → GetArgs → PutArgs → Option AtomicOp → Option SwapOp → ElemType → ℕ → Header
fetch_header rank kind g a op swap ty operand = record {
  kind = kind;
  source = rank;
  target = a.target;
  pt = a.pt;
  match_bits = a.match_bits;
  offset = a.remote_offset;
  length = a.length;
  hdr_data = a.hdr_data;
  op = op;
  swap = swap;
  ty = ty;
  operand = operand;
  ack = NoAck;
  home = Some g.md;
  home_offset = g.local_offset;
  ok = true;
}

-- none of an action that counts and sends nothing
abbrev pub header_of : ℕ → TriggeredOp → Option Header
header_of rank (Put a) = Some (put_header rank PutKind a None U8)
header_of rank (Get g) = Some (get_header rank g)
header_of rank (Atomic a op ty) = Some (put_header rank AtomicKind a (Some op) ty)
header_of rank (FetchAtomic g a op ty) = Some (fetch_header rank FetchAtomicKind g a (Some op) None ty 0)
header_of rank (Swap g a sw ty operand) = Some (fetch_header rank SwapKind g a None (Some sw) ty operand)
header_of rank (Inc ct by) = None
header_of rank (Set ct to) = None

-- ---- bytes: the put arguments' part of their descriptor, none for a get

-- the put arguments of an action, if it has some
abbrev pub put_args : TriggeredOp → Option PutArgs
put_args (Put a) = Some a
put_args (Atomic a op ty) = Some a
put_args (FetchAtomic g a op ty) = Some a
put_args (Swap g a sw ty operand) = Some a
put_args _ = None

-- a part of the descriptor in the region
abbrev pub bytes_at : Option Bound → ℕ → ℕ → List ℕ → List ℕ
bytes_at None at n memory = []
bytes_at (Some b) at n memory = part (b.md.start + at) n memory

-- the bytes that a start sends
abbrev pub bytes_read : Home → TriggeredOp → List ℕ
bytes_read p d = elim (put_args d) [ Some a ↦ bytes_at (lookup a.md p.mds.live) a.local_offset a.length p.region | None ↦ [] ]

-- ---- what a start does: it counts and tells on the descriptor of the put arguments (of a get on its own), and the home awaits an answer

-- the descriptor that the start counts and tells on
abbrev pub counted_on : TriggeredOp → Option Handle
counted_on (Put a) = Some a.md
counted_on (Get g) = Some g.md
counted_on (Atomic a op ty) = Some a.md
counted_on (FetchAtomic g a op ty) = Some a.md
counted_on (Swap g a sw ty operand) = Some a.md
counted_on _ = None

-- its counting event, where it counts sends
abbrev pub send_counter : Option Bound → Option Handle
send_counter None = None
send_counter (Some b) = where_set b.md.count_send b.md.ct

-- its event queue, if it has one, gets Send, where the descriptor shows it
abbrev pub send_told : Option Bound → Header → Table Waiting → Table Waiting
send_told None h eqs = eqs
send_told (Some b) h eqs = told_of_descriptor b.md.hidden b.md.eq (send_event h) eqs

-- one answer more is awaited
abbrev pub one_awaited : Bound → Bound
one_awaited b = record b { awaits = one_more b.awaits }

-- at the home of the answer, if there is to be one
abbrev pub awaits_more : Option Handle → Table Bound → Table Bound
awaits_more None mds = mds
awaits_more (Some h) mds = changed h one_awaited mds

-- the initiator after a start
abbrev pub sent_from : Home → TriggeredOp → Header → Home
sent_from p d h =
    home
    (awaits_more h.home p.mds)
    p.region
    (counted (send_counter (bound_at (counted_on d) p.mds)) (successes 1) p.cts)
    (send_told (bound_at (counted_on d) p.mds) h p.eqs)

-- what is left after a start: the parts, the message, and the counting event that rose
pub record Started : Type 0 where
  pub home : Home
  pub message : Option Sent
  pub counted : Option Handle

-- none of an action that sends nothing
abbrev pub started_by : Home → TriggeredOp → Option Header → Started
started_by p d None = record { home = p; message = None; counted = None }
started_by p d (Some h) =
    record { home = sent_from p d h; message = Some (message h (bytes_read p d)); counted = send_counter (bound_at (counted_on d) p.mds) }

-- a start at rank `rank`
unfoldable pub started : ℕ → Home → TriggeredOp → Started
started rank p d = started_by p d (header_of rank d)
