-- What has a code is found at it.
use Rattle.std.proofs.Common.{◌≡◌, Bool, true, false, Option, Some, None, refl}
use Rattle.std.specs.List.{slice_get}
use Rattle.ptl_types.specs.declared.headers.MessageKind.{MessageKind}
use Rattle.ptl_types.specs.declared.headers.MessageKind.TheVariants.{Put, Get, Atomic, FetchAtomic, Swap as SwapKind, Ack as AckKind, Reply}
use Rattle.ptl_types.specs.declared.headers.AckRequest.{AckRequest}
use Rattle.ptl_types.specs.declared.headers.AckRequest.TheVariants.{NoAck, CtAck, Ack}
use Rattle.ptl_types.specs.declared.elements.AtomicOp.{AtomicOp}
use Rattle.ptl_types.specs.declared.elements.AtomicOp.TheVariants.{Min, Max, Sum, Prod, Lor, Land, Bor, Band, Lxor, Bxor}
use Rattle.ptl_types.specs.declared.elements.SwapOp.{SwapOp}
use Rattle.ptl_types.specs.declared.elements.SwapOp.TheVariants.{Swap, Cswap, Mswap}
use Rattle.ptl_types.specs.declared.elements.ElemType.{ElemType}
use Rattle.ptl_types.specs.declared.elements.ElemType.TheVariants.{U8, I8, U16, I16, U32, I32, U64, I64}
use Rattle.message_codec.specs.Codes.{kinds, kind_code, acks, ack_code, operations, operation_code}
use Rattle.message_codec.specs.Codes.{swaps, swap_code, types, type_code, flags, flag_code}

pub kind-again : (k : MessageKind) → slice_get kinds (kind_code k) ≡ Some k
kind-again Put = refl
kind-again Get = refl
kind-again Atomic = refl
kind-again FetchAtomic = refl
kind-again SwapKind = refl
kind-again AckKind = refl
kind-again Reply = refl

pub ack-again : (a : AckRequest) → slice_get acks (ack_code a) ≡ Some a
ack-again NoAck = refl
ack-again CtAck = refl
ack-again Ack = refl

pub operation-again : (o : Option AtomicOp) → slice_get operations (operation_code o) ≡ Some o
operation-again None = refl
operation-again (Some Min) = refl
operation-again (Some Max) = refl
operation-again (Some Sum) = refl
operation-again (Some Prod) = refl
operation-again (Some Lor) = refl
operation-again (Some Land) = refl
operation-again (Some Bor) = refl
operation-again (Some Band) = refl
operation-again (Some Lxor) = refl
operation-again (Some Bxor) = refl

pub swap-again : (o : Option SwapOp) → slice_get swaps (swap_code o) ≡ Some o
swap-again None = refl
swap-again (Some Swap) = refl
swap-again (Some Cswap) = refl
swap-again (Some Mswap) = refl

pub type-again : (t : ElemType) → slice_get types (type_code t) ≡ Some t
type-again U8 = refl
type-again I8 = refl
type-again U16 = refl
type-again I16 = refl
type-again U32 = refl
type-again I32 = refl
type-again U64 = refl
type-again I64 = refl

pub flag-again : (b : Bool) → slice_get flags (flag_code b) ≡ Some b
flag-again false = refl
flag-again true = refl
