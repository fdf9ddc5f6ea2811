-- Single words, and bytes as a word.
use Rattle.std.specs.Prelude.{ℕ, ◌+◌, ◌/◌, ◌%◌, nat_lt, List, [], ◌∷◌, Option, Some, None, codes, if◌then◌else◌}
use Rattle.ptl_types.specs.declared.headers.MessageKind.{MessageKind}
use Rattle.ptl_types.specs.declared.headers.MessageKind.TheVariants as messages
use Rattle.ptl_types.specs.declared.headers.AckRequest.{AckRequest}
use Rattle.ptl_types.specs.declared.headers.AckRequest.TheVariants as acks
use Rattle.ptl_types.specs.declared.elements.ElemType.{ElemType}
use Rattle.ptl_types.specs.declared.elements.ElemType.TheVariants as types
use Rattle.ptl_types.specs.declared.elements.AtomicOp.{AtomicOp}
use Rattle.ptl_types.specs.declared.elements.AtomicOp.TheVariants as ops
use Rattle.ptl_types.specs.declared.elements.SwapOp.{SwapOp}
use Rattle.ptl_types.specs.declared.elements.SwapOp.TheVariants as swaps
use Rattle.ptl_types.specs.declared.events.EventKind.{EventKind}
use Rattle.ptl_types.specs.declared.events.EventKind.TheVariants as events
use Rattle.ptl_types.specs.declared.calls.Outcome.{Outcome}
use Rattle.ptl_types.specs.declared.calls.Outcome.TheVariants as outcomes

abbrev pub outcome_word : Outcome → List ℕ
outcome_word outcomes.Matched = codes "matched"
outcome_word outcomes.Overflow = codes "overflow"
outcome_word outcomes.Answered = codes "answered"
outcome_word outcomes.Dropped = codes "dropped"
outcome_word outcomes.Violation = codes "violation"

abbrev pub event_word : EventKind → List ℕ
event_word events.Put = codes "put"
event_word events.PutOverflow = codes "put_overflow"
event_word events.Get = codes "get"
event_word events.Atomic = codes "atomic"
event_word events.AtomicOverflow = codes "atomic_overflow"
event_word events.FetchAtomic = codes "fetch_atomic"
event_word events.Reply = codes "reply"
event_word events.Send = codes "send"
event_word events.Ack = codes "ack"
event_word events.Link = codes "link"
event_word events.AutoUnlink = codes "auto_unlink"
event_word events.AutoFree = codes "auto_free"
event_word events.Search = codes "search"

abbrev pub kind_word : MessageKind → List ℕ
kind_word messages.Put = codes "put"
kind_word messages.Get = codes "get"
kind_word messages.Atomic = codes "atomic"
kind_word messages.FetchAtomic = codes "fetch_atomic"
kind_word messages.Swap = codes "swap"
kind_word messages.Ack = codes "ack"
kind_word messages.Reply = codes "reply"

abbrev pub ack_word : AckRequest → List ℕ
ack_word acks.NoAck = codes "none"
ack_word acks.CtAck = codes "ct"
ack_word acks.Ack = codes "full"

abbrev pub type_word : ElemType → List ℕ
type_word types.U8 = codes "u8"
type_word types.I8 = codes "i8"
type_word types.U16 = codes "u16"
type_word types.I16 = codes "i16"
type_word types.U32 = codes "u32"
type_word types.I32 = codes "i32"
type_word types.U64 = codes "u64"
type_word types.I64 = codes "i64"

-- `-` where there is none
abbrev pub op_word : Option AtomicOp → List ℕ
op_word None = codes "-"
op_word (Some ops.Min) = codes "min"
op_word (Some ops.Max) = codes "max"
op_word (Some ops.Sum) = codes "sum"
op_word (Some ops.Prod) = codes "prod"
op_word (Some ops.Lor) = codes "lor"
op_word (Some ops.Land) = codes "land"
op_word (Some ops.Bor) = codes "bor"
op_word (Some ops.Band) = codes "band"
op_word (Some ops.Lxor) = codes "lxor"
op_word (Some ops.Bxor) = codes "bxor"

abbrev pub swap_word : Option SwapOp → List ℕ
swap_word None = codes "-"
swap_word (Some swaps.Swap) = codes "swap"
swap_word (Some swaps.Cswap) = codes "cswap"
swap_word (Some swaps.Mswap) = codes "mswap"

-- ---- bytes: two digits a byte, `-` for none

-- the digit of a value below 16
abbrev pub hex_char : ℕ → ℕ
hex_char n = if nat_lt n 10 then n + 48 else n + 87

abbrev pub hex_digits : List ℕ → List ℕ
hex_digits [] = []
hex_digits (b ∷ bs) = hex_char (b / 16) ∷ hex_char (b % 16) ∷ hex_digits bs

abbrev pub hex_word : List ℕ → List ℕ
hex_word [] = codes "-"
hex_word (b ∷ bs) = hex_digits (b ∷ bs)
