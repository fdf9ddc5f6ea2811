-- Messages in the form that C has them: a header of numbers, and bytes beside it.
use Rattle.std.specs.Prelude.{ℕ, ◌≡◌, ◌==◌, ◌-◌, ◌%◌, ◌++◌, Bool, true, false, List, Option, Some, None, Result, Ok, Err, is_some}
use Rattle.std.specs.Prelude.{IsTrue, length, take, drop}
use Rattle.std.specs.Prelude.{if◌then◌else◌}
use Rattle.ptl_types.specs.declared.elements.ElemType.{ElemType}
use Rattle.ptl_types.specs.declared.elements.ElemType.TheVariants.{U8, I8, U16, I16, U32, I32, U64, I64}
use Rattle.ptl_types.specs.declared.elements.AtomicOp.{AtomicOp}
use Rattle.ptl_types.specs.declared.elements.AtomicOp.TheVariants.{Min, Max, Sum, Prod, Lor, Land, Bor, Band, Lxor, Bxor}
use Rattle.ptl_types.specs.declared.elements.SwapOp.{SwapOp}
use Rattle.ptl_types.specs.declared.elements.SwapOp.TheVariants.{Swap as SwapIt, Cswap, Mswap}
use Rattle.ptl_types.specs.declared.handles.Handle.{Handle}
use Rattle.ptl_types.specs.declared.headers.AckRequest.{AckRequest}
use Rattle.ptl_types.specs.declared.headers.AckRequest.TheVariants.{NoAck, CtAck, Ack}
use Rattle.ptl_types.specs.declared.headers.Header.{Header}
use Rattle.ptl_types.specs.declared.headers.MessageKind.{MessageKind}
use Rattle.ptl_types.specs.declared.headers.MessageKind.TheVariants.{Put, Get, Atomic, FetchAtomic, Swap, Ack as AckKind, Reply}
use Rattle.ptl_types.specs.Kinds.{has_elements, has_op, is_swap}
use Rattle.ptl_types.specs.Messages.{Sent, bytes_due, message}
use Rattle.ptl_types.specs.Operations.{bytes_of}
use Rattle.c_interface.specs.declared.forms.CHandle.{CHandle}
use Rattle.c_interface.specs.declared.messages.CMessage.{CMessage}
use Rattle.c_interface.specs.Forms.{bit, handle_told, none_told, unless_none}

-- ---- numbers of kinds, acknowledgements, operations and types

abbrev pub kind_number : MessageKind → ℕ
kind_number Put = 0
kind_number Get = 1
kind_number Atomic = 2
kind_number FetchAtomic = 3
kind_number Swap = 4
kind_number AckKind = 5
kind_number Reply = 6

abbrev pub kind_of : ℕ → Option MessageKind
kind_of n =
    if n == 0 then Some Put else if n == 1 then Some Get else if n == 2 then Some Atomic else if n == 3 then Some FetchAtomic
    else if n == 4 then Some Swap else if n == 5 then Some AckKind else if n == 6 then Some Reply else None

abbrev pub ack_number : AckRequest → ℕ
ack_number NoAck = 0
ack_number CtAck = 1
ack_number Ack = 2

abbrev pub ack_of : ℕ → Option AckRequest
ack_of n = if n == 0 then Some NoAck else if n == 1 then Some CtAck else if n == 2 then Some Ack else None

abbrev pub operation_of : ℕ → Option AtomicOp
operation_of n =
    if n == 0 then Some Min else if n == 1 then Some Max else if n == 2 then Some Sum else if n == 3 then Some Prod else if n == 4 then
    Some Lor
    else if n == 5 then Some Land else if n == 6 then Some Bor else if n == 7 then Some Band else if n == 8 then Some Lxor
    else if n == 9 then Some Bxor else None

abbrev pub swap_of : ℕ → Option SwapOp
swap_of n = if n == 0 then Some SwapIt else if n == 1 then Some Cswap else if n == 2 then Some Mswap else None

abbrev pub type_number : ElemType → ℕ
type_number U8 = 0
type_number I8 = 1
type_number U16 = 2
type_number I16 = 3
type_number U32 = 4
type_number I32 = 5
type_number U64 = 6
type_number I64 = 7

abbrev pub type_of : ℕ → Option ElemType
type_of n =
    if n == 0 then Some U8 else if n == 1 then Some I8 else if n == 2 then Some U16 else if n == 3 then Some I16 else if n == 4 then Some
    U32
    else if n == 5 then Some I32 else if n == 6 then Some U64 else if n == 7 then Some I64 else None

-- three, where each is
abbrev pub three_of : {A B C : Type 0} → Option A → Option B → Option C → Option (A × B × C)
three_of (Some x) (Some y) (Some z) = Some (x, y, z)
three_of _ _ _ = None

-- in a header 0 stands for no operation, and each number is one higher
abbrev pub operation_told : Option AtomicOp → ℕ
operation_told None = 0
operation_told (Some Min) = 1
operation_told (Some Max) = 2
operation_told (Some Sum) = 3
operation_told (Some Prod) = 4
operation_told (Some Lor) = 5
operation_told (Some Land) = 6
operation_told (Some Bor) = 7
operation_told (Some Band) = 8
operation_told (Some Lxor) = 9
operation_told (Some Bxor) = 10

abbrev pub swap_told : Option SwapOp → ℕ
swap_told None = 0
swap_told (Some SwapIt) = 1
swap_told (Some Cswap) = 2
swap_told (Some Mswap) = 3

abbrev pub maybe : {A : Type 0} → Option A → Option (Option A)
maybe None = None
maybe (Some x) = Some (Some x)

abbrev pub named : {A : Type 0} → (ℕ → Option A) → ℕ → Option (Option A)
named of n = if n == 0 then Some None else maybe (of (n - 1))

-- ---- a message as it is handed out

abbrev pub home_told : Option Handle → CHandle
home_told None = none_told
home_told (Some h) = handle_told h

abbrev pub message_told : Sent → CMessage
message_told m = record {
  kind = kind_number m.header.kind;
  source = m.header.source;
  target = m.header.target;
  pt_index = m.header.pt;
  ack_req = ack_number m.header.ack;
  operation = operation_told m.header.op;
  swap = swap_told m.header.swap;
  datatype = type_number m.header.ty;
  ok = bit m.header.ok;
  home = home_told m.header.home;
  home_offset = m.header.home_offset;
  match_bits = m.header.match_bits;
  offset = m.header.offset;
  length = m.header.length;
  hdr_data = m.header.hdr_data;
  operand = m.header.operand;
  bytes = length m.bytes;
}

-- bytes in front of a buffer, as many as it has room for
abbrev pub onto : List ℕ → List ℕ → List ℕ
onto bytes old = take (length old) bytes ++ drop (length bytes) old

abbrev pub handed : Sent → CMessage × List ℕ → CMessage × List ℕ
handed m old = (message_told m, onto m.bytes old.1)

-- ---- and as it is read

-- 0 and 1 alone are truths
abbrev pub truth_of : ℕ → Option Bool
truth_of n = if n == 0 then Some false else if n == 1 then Some true else None

-- the header of such parts; none where one of them names nothing
abbrev pub header_by : CMessage → Option MessageKind → Option AckRequest → Option (Option AtomicOp) → Option (Option SwapOp) → Option
    ElemType
    → Option Bool → Option Header
header_by c (Some kind) (Some ack) (Some op) (Some swap) (Some ty) (Some ok) = Some (record {
  kind = kind;
  source = c.source;
  target = c.target;
  pt = c.pt_index;
  match_bits = c.match_bits;
  offset = c.offset;
  length = c.length;
  hdr_data = c.hdr_data;
  op = op;
  swap = swap;
  ty = ty;
  operand = c.operand;
  ack = ack;
  home = unless_none c.home;
  home_offset = c.home_offset;
  ok = ok;
})
header_by c _ _ _ _ _ _ = None

abbrev pub header_of : CMessage → Option Header
header_of c =
    header_by c (kind_of c.kind) (ack_of c.ack_req) (named operation_of c.operation) (named swap_of c.swap) (type_of c.datatype) (truth_of
    c.ok)

-- so many bytes go with a header
pub record GoesWith (h : Header) (count : ℕ) : Type 0 where
  pub bytes : count ≡ bytes_due h.kind h.ok h.length
  pub whole : IsTrue (has_elements h.kind) → h.length % bytes_of h.ty ≡ 0
  pub op : is_some h.op ≡ has_op h.kind
  pub swap : is_some h.swap ≡ is_swap h.kind
  pub one : IsTrue (is_swap h.kind) → h.length ≡ bytes_of h.ty

-- the message of a header and bytes: 35 where a number of the header names nothing, else 36 where they don't go together, else 6 for
-- want of memory
pub data Reads (header : Option Header) (bytes : List ℕ) : Result Sent ℕ → Type 0 where
  Unknown : header ≡ None → Reads header bytes (Err 35)
  Malformed : (h : Header) → header ≡ Some h → (GoesWith h (length bytes) → ⊥) → Reads header bytes (Err 36)
  Lacking : (h : Header) → header ≡ Some h → GoesWith h (length bytes) → Reads header bytes (Err 6)
  Read : (h : Header) → header ≡ Some h → GoesWith h (length bytes) → Reads header bytes (Ok (message h bytes))
