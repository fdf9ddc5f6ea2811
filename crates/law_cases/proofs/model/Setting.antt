-- The setting of the worked cases: an interface of rank 0 of 2 with small limits, and messages from rank 1.
use Rattle.std.specs.Prelude.{ℕ, Bool, true, false, List, [], Option, Some, None, replicate, length}
use Rattle.ptl_types.specs.declared.handles.Handle.{Handle}
use Rattle.ptl_types.specs.declared.elements.ElemType.{ElemType}
use Rattle.ptl_types.specs.declared.elements.ElemType.TheVariants.{U8}
use Rattle.ptl_types.specs.declared.elements.AtomicOp.{AtomicOp}
use Rattle.ptl_types.specs.declared.elements.SwapOp.{SwapOp}
use Rattle.ptl_types.specs.declared.headers.MessageKind.TheVariants.{Put as PutKind, Atomic as AtomicKind, FetchAtomic as FetchAtomicKind}
use Rattle.ptl_types.specs.declared.headers.MessageKind.TheVariants.{Swap as SwapKind}
use Rattle.ptl_types.specs.declared.headers.AckRequest.{AckRequest}
use Rattle.ptl_types.specs.declared.headers.AckRequest.TheVariants.{NoAck}
use Rattle.ptl_types.specs.declared.entries.Entry.{Entry}
use Rattle.ptl_types.specs.declared.entries.Descriptor.{Descriptor}
use Rattle.ptl_types.specs.declared.entries.TheConstants.HiddenEntryEvents as hidden_entry_events
use Rattle.ptl_types.specs.declared.entries.TheConstants.HiddenDescriptorEvents as hidden_descriptor_events
use Rattle.ptl_types.specs.declared.calls.Limits.{Limits}
use Rattle.ptl_types.specs.declared.calls.PutArgs.{PutArgs}
use Rattle.ptl_types.specs.declared.calls.GetArgs.{GetArgs}
use Rattle.ptl_types.specs.Messages.{Sent, message}
use Rattle.ni_model.specs.Starts.{put_header, get_header, fetch_header}
use Rattle.ni_model.specs.Tables.{handle}
use Rattle.ni_model.specs.State.{State, opened}
use Rattle.ni_model.specs.Calls.{pt_alloc}

abbrev pub limits : Limits
limits = record { entries = 4; unexpected = 2; mds = 2; cts = 2; eqs = 1; pts = 2; triggered = 4; msg = 16; atomic = 8; fetch_atomic = 8 }

-- rank 0 of 2, with portal table index 0 allocated
abbrev pub new : State
new = (pt_alloc 0 None (opened 0 2 limits (replicate 16 0))).state

-- the first thing of a table, and the second, with slots as a plain store gives them
abbrev pub first : Handle
first = handle 0 0

abbrev pub second : Handle
second = handle 1 1

-- an entry that allows put and get, with match bits 5, any rank and no option
abbrev pub entry : ℕ → ℕ → Entry
entry start length = record {
  start = start;
  length = length;
  ct = None;
  match_id = None;
  match_bits = 5;
  ignore_bits = 0;
  min_free = 0;
  allow_put = true;
  allow_get = true;
  use_once = false;
  manage_local = false;
  no_truncate = false;
  count_comm = false;
  count_overflow = false;
  hidden = hidden_entry_events.NONE;
}

abbrev pub once : Entry → Entry
once e = record e { use_once = true }

abbrev pub counting : Handle → Entry → Entry
counting h e = record e { ct = Some h; count_comm = true }

abbrev pub counting_overflow : Handle → Entry → Entry
counting_overflow h e = record e { ct = Some h; count_overflow = true }

abbrev pub local : ℕ → Entry → Entry
local free e = record e { manage_local = true; min_free = free }

abbrev pub part_of : ℕ → ℕ → Descriptor
part_of start length = record {
  start = start;
  length = length;
  eq = None;
  ct = None;
  count_send = false;
  count_reply = false;
  count_ack = false;
  hidden = hidden_descriptor_events.NONE;
}

-- ---- messages of rank 1 to rank 0, with match bits 5 and header data 77

abbrev pub args : ℕ → ℕ → ℕ → PutArgs
args pt offset length = record {
  md = first;
  local_offset = 0;
  length = length;
  ack = NoAck;
  target = 0;
  pt = pt;
  match_bits =
      5;
  remote_offset = offset;
  hdr_data = 77;
}

abbrev pub back : ℕ → GetArgs
back length = record { md = first; local_offset = 3; length = length; target = 0; pt = 0; match_bits = 5; remote_offset = 0 }

abbrev pub put_at : ℕ → ℕ → List ℕ → Sent
put_at pt offset bytes = message (put_header 1 PutKind (args pt offset (length bytes)) None U8) bytes

abbrev pub put : List ℕ → Sent
put bytes = put_at 0 0 bytes

abbrev pub asking : AckRequest → List ℕ → Sent
asking ack bytes = message (put_header 1 PutKind (record (args 0 0 (length bytes)) { ack = ack }) None U8) bytes

abbrev pub atomic : ℕ → AtomicOp → ElemType → List ℕ → Sent
atomic offset op ty bytes = message (put_header 1 AtomicKind (args 0 offset (length bytes)) (Some op) ty) bytes

abbrev pub fetch : AtomicOp → ElemType → List ℕ → Sent
fetch op ty bytes = message (fetch_header 1 FetchAtomicKind (back (length bytes)) (args 0 0 (length bytes)) (Some op) None ty 0) bytes

abbrev pub swap : ℕ → SwapOp → ElemType → ℕ → List ℕ → Sent
swap offset op ty operand bytes = message (fetch_header 1 SwapKind (back (length bytes)) (args 0 offset (length bytes)) None (Some op) ty
    operand) bytes

abbrev pub get : ℕ → Sent
get length = message (get_header 1 (back length)) []

-- ---- parts of answers

abbrev pub bytes_of_answer : Option Sent → List ℕ
bytes_of_answer None = []
bytes_of_answer (Some m) = m.bytes

abbrev pub is_ok_answer : Option Sent → Bool
is_ok_answer None = false
is_ok_answer (Some m) = m.header.ok

abbrev pub length_of_answer : Option Sent → ℕ
length_of_answer None = 99
length_of_answer (Some m) = m.header.length
