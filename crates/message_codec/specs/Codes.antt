-- The one-byte codes of a header: each is the place of what it stands for in a list.
use Rattle.std.specs.Prelude.{ℕ, Bool, true, false, List, [], ◌∷◌, Option, Some, None}
use Rattle.ptl_types.specs.declared.headers.MessageKind.{MessageKind}
use Rattle.ptl_types.specs.declared.headers.MessageKind.TheVariants.{Put, Get, Atomic, FetchAtomic, Swap as SwapKind, Ack as AckKind, Reply}
use Rattle.ptl_types.specs.declared.headers.AckRequest.{AckRequest}
use Rattle.ptl_types.specs.declared.headers.AckRequest.TheVariants.{NoAck, CtAck, Ack}
use Rattle.ptl_types.specs.declared.elements.AtomicOp.{AtomicOp}
use Rattle.ptl_types.specs.declared.elements.AtomicOp.TheVariants.{Min, Max, Sum, Prod, Lor, Land, Bor, Band, Lxor, Bxor}
use Rattle.ptl_types.specs.declared.elements.SwapOp.{SwapOp}
use Rattle.ptl_types.specs.declared.elements.SwapOp.TheVariants.{Swap, Cswap, Mswap}
use Rattle.ptl_types.specs.declared.elements.ElemType.{ElemType}
use Rattle.ptl_types.specs.declared.elements.ElemType.TheVariants.{U8, I8, U16, I16, U32, I32, U64, I64}

abbrev pub kinds : List MessageKind
kinds = Put ∷ Get ∷ Atomic ∷ FetchAtomic ∷ SwapKind ∷ AckKind ∷ Reply ∷ []

abbrev pub kind_code : MessageKind → ℕ
kind_code Put = 0
kind_code Get = 1
kind_code Atomic = 2
kind_code FetchAtomic = 3
kind_code SwapKind = 4
kind_code AckKind = 5
kind_code Reply = 6

abbrev pub acks : List AckRequest
acks = NoAck ∷ CtAck ∷ Ack ∷ []

abbrev pub ack_code : AckRequest → ℕ
ack_code NoAck = 0
ack_code CtAck = 1
ack_code Ack = 2

-- none, and then the atomic operations
abbrev pub operations : List (Option AtomicOp)
operations =
    None ∷ Some Min ∷ Some Max ∷ Some Sum ∷ Some Prod ∷ Some Lor ∷ Some Land ∷ Some Bor ∷ Some Band ∷ Some Lxor ∷ Some Bxor ∷ []

abbrev pub operation_code : Option AtomicOp → ℕ
operation_code None = 0
operation_code (Some Min) = 1
operation_code (Some Max) = 2
operation_code (Some Sum) = 3
operation_code (Some Prod) = 4
operation_code (Some Lor) = 5
operation_code (Some Land) = 6
operation_code (Some Bor) = 7
operation_code (Some Band) = 8
operation_code (Some Lxor) = 9
operation_code (Some Bxor) = 10

-- none, and then the swaps
abbrev pub swaps : List (Option SwapOp)
swaps = None ∷ Some Swap ∷ Some Cswap ∷ Some Mswap ∷ []

abbrev pub swap_code : Option SwapOp → ℕ
swap_code None = 0
swap_code (Some Swap) = 1
swap_code (Some Cswap) = 2
swap_code (Some Mswap) = 3

abbrev pub types : List ElemType
types = U8 ∷ I8 ∷ U16 ∷ I16 ∷ U32 ∷ I32 ∷ U64 ∷ I64 ∷ []

abbrev pub type_code : ElemType → ℕ
type_code U8 = 0
type_code I8 = 1
type_code U16 = 2
type_code I16 = 3
type_code U32 = 4
type_code I32 = 5
type_code U64 = 6
type_code I64 = 7

abbrev pub flags : List Bool
flags = false ∷ true ∷ []

abbrev pub flag_code : Bool → ℕ
flag_code false = 0
flag_code true = 1
