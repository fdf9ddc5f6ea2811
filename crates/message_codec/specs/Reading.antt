-- What bytes read as: a message, or the first fault.
use Rattle.std.specs.Prelude.{ℕ, ◌≡◌, ◌%◌, Bool, true, false, not, ◌&&◌, ◌==◌, nat_lt, List, length, drop, slice_index, if◌then◌else◌}
use Rattle.std.specs.Prelude.{Option, Some, None, is_some, Result, Ok, Err}
use Rattle.std.specs.List.{slice_get}
use Rattle.std.specs.Option.{ok_or}
use Rattle.std.specs.Int.{w32, w64, from_le_bytes}
use Rattle.ptl_types.specs.declared.handles.Handle.{Handle}
use Rattle.ptl_types.specs.declared.headers.Header.{Header}
use Rattle.ptl_types.specs.declared.headers.MessageKind.{MessageKind}
use Rattle.ptl_types.specs.declared.headers.MessageKind.TheVariants.{Get}
use Rattle.ptl_types.specs.Elements.{part}
use Rattle.ptl_types.specs.Kinds.{has_elements, has_op, is_swap}
use Rattle.ptl_types.specs.Messages.{Sent, message, bytes_due}
use Rattle.ptl_types.specs.Operations.{bytes_of}
use Rattle.message_codec.specs.declared.fault.Fault.{Fault}
use Rattle.message_codec.specs.declared.fault.Fault.TheVariants.{Short, Kind, Delivered, Ack, Operation, Swap, ElementType, Home, Reserved}
use Rattle.message_codec.specs.declared.fault.Fault.TheVariants.{StrayHome, OperationOfKind, SwapOfKind, PartElement, OneElement, Long}
use Rattle.message_codec.specs.declared.fault.DecodeError.{DecodeError}
use Rattle.message_codec.specs.declared.fault.DecodeError.TheVariants as errors
use Rattle.message_codec.specs.declared.decoding.Codes.{Codes}
use Rattle.message_codec.specs.Codes.{kinds, acks, operations, swaps, types, flags}
use Rattle.message_codec.specs.Codes.{kind_code, ack_code, operation_code, swap_code, type_code, flag_code}
use Rattle.message_codec.specs.Encoding.{home_slot, home_stamp}

infixl 10 ◌>>=◌
abbrev pub ◌>>=◌ : {A B : Type 0} → Result A Fault → (A → Result B Fault) → Result B Fault
(Ok x) >>= f = f x
(Err e) >>= f = Err e

abbrev pub header_length : ℕ
header_length = 80

-- the number in the four bytes from `at` on, lowest first, and in the eight
abbrev pub word_at : ℕ → List ℕ → ℕ
word_at at bytes = from_le_bytes w32 (part at 4 bytes)

abbrev pub double_word_at : ℕ → List ℕ → ℕ
double_word_at at bytes = from_le_bytes w64 (part at 8 bytes)

-- what the first eight bytes stand for
unfoldable pub codes_at : List ℕ → Result Codes Fault
codes_at bytes = do
  kind ← ok_or (slice_get kinds (slice_index bytes 0)) Kind
  ok ← ok_or (slice_get flags (slice_index bytes 1)) Delivered
  ack ← ok_or (slice_get acks (slice_index bytes 2)) Ack
  op ← ok_or (slice_get operations (slice_index bytes 3)) Operation
  swap ← ok_or (slice_get swaps (slice_index bytes 4)) Swap
  ty ← ok_or (slice_get types (slice_index bytes 5)) ElementType
  home ← ok_or (slice_get flags (slice_index bytes 6)) Home
  if slice_index bytes 7 == 0
      then Ok (record { kind = kind; ok = ok; ack = ack; op = op; swap = swap; ty = ty; home = home })
      else Err Reserved

-- the descriptor that awaits the answer, where the flag says that one does
unfoldable pub home_at : Bool → List ℕ → Result (Option Handle) Fault
home_at true bytes = Ok (Some (record { slot = word_at 20 bytes; stamp = double_word_at 64 bytes }))
home_at false bytes = if (word_at 20 bytes == 0) && (double_word_at 64 bytes == 0) then Ok None else Err StrayHome

-- the header with these codes and this descriptor, its other numbers taken from their places
abbrev pub header_with : Codes → Option Handle → List ℕ → Header
header_with codes home bytes = record {
  kind = codes.kind;
  source = word_at 8 bytes;
  target = word_at 12 bytes;
  pt = word_at 16 bytes;
  match_bits = double_word_at 24 bytes;
  offset = double_word_at 32 bytes;
  length = double_word_at 40 bytes;
  hdr_data = double_word_at 48 bytes;
  op = codes.op;
  swap = codes.swap;
  ty = codes.ty;
  operand = double_word_at 56 bytes;
  ack = codes.ack;
  home = home;
  home_offset = double_word_at 72 bytes;
  ok = codes.ok;
}

unfoldable pub header_at : List ℕ → Result Header Fault
header_at bytes = do
  codes ← codes_at bytes
  home ← home_at codes.home bytes
  Ok (header_with codes home bytes)

-- of all kinds a get alone brings no bytes and wants room
abbrev pub is_get : MessageKind → Bool
is_get Get = true
is_get _ = false

abbrev pub differ : Bool → Bool → Bool
differ true b = not b
differ false b = b

-- what is wrong with a header that n bytes follow
unfoldable pub fault_of : Header → ℕ → Option Fault
fault_of h n =
    if differ (is_some h.op) (has_op h.kind) then Some OperationOfKind
    else if differ (is_some h.swap) (is_swap h.kind) then Some SwapOfKind
    else if has_elements h.kind && not (h.length % bytes_of h.ty == 0) then Some PartElement
    else if is_swap h.kind && not (h.length == bytes_of h.ty) then Some OneElement
    else if nat_lt n (bytes_due h.kind h.ok h.length) then Some Short
    else if nat_lt (bytes_due h.kind h.ok h.length) n then Some Long
    else None

-- the header with the bytes behind it, unless something is wrong with them
abbrev pub judged : Header → List ℕ → Option Fault → Result Sent Fault
judged h bytes None = Ok (message h bytes)
judged h bytes (Some fault) = Err fault

unfoldable pub reading : List ℕ → Result Sent Fault
reading bytes =
    if nat_lt (length bytes) header_length then Err Short
    else header_at bytes >>= λ h. judged h (drop header_length bytes) (fault_of h (length (drop header_length bytes)))

-- a call gave what reading gives, unless memory ran out
abbrev pub Fails : DecodeError → Result Sent Fault → Type 0
Fails errors.NoMemory read = Unit {0}
Fails (errors.Fault fault) read = read ≡ Err fault

abbrev pub Gives : Result Sent DecodeError → Result Sent Fault → Type 0
Gives (Ok m) read = read ≡ Ok m
Gives (Err e) read = Fails e read

-- where each part of a header lies
pub record CodesAt (bytes : List ℕ) (codes : Codes) : Type 0 where
  pub kind : slice_index bytes 0 ≡ kind_code codes.kind
  pub ok : slice_index bytes 1 ≡ flag_code codes.ok
  pub ack : slice_index bytes 2 ≡ ack_code codes.ack
  pub op : slice_index bytes 3 ≡ operation_code codes.op
  pub swap : slice_index bytes 4 ≡ swap_code codes.swap
  pub ty : slice_index bytes 5 ≡ type_code codes.ty
  pub home : slice_index bytes 6 ≡ flag_code codes.home
  pub reserved : slice_index bytes 7 ≡ 0

pub record HomeAt (is_there : Bool) (bytes : List ℕ) (home : Option Handle) : Type 0 where
  pub flag : is_some home ≡ is_there
  pub slot : word_at 20 bytes ≡ home_slot home
  pub stamp : double_word_at 64 bytes ≡ home_stamp home

abbrev pub codes_of : Header → Codes
codes_of h = record { kind = h.kind; ok = h.ok; ack = h.ack; op = h.op; swap = h.swap; ty = h.ty; home = is_some h.home }

pub record HeaderAt (bytes : List ℕ) (h : Header) : Type 0 where
  pub codes : CodesAt bytes (codes_of h)
  pub home : HomeAt (is_some h.home) bytes h.home
  pub source : word_at 8 bytes ≡ h.source
  pub target : word_at 12 bytes ≡ h.target
  pub pt : word_at 16 bytes ≡ h.pt
  pub match_bits : double_word_at 24 bytes ≡ h.match_bits
  pub offset : double_word_at 32 bytes ≡ h.offset
  pub length : double_word_at 40 bytes ≡ h.length
  pub hdr_data : double_word_at 48 bytes ≡ h.hdr_data
  pub operand : double_word_at 56 bytes ≡ h.operand
  pub home_offset : double_word_at 72 bytes ≡ h.home_offset
