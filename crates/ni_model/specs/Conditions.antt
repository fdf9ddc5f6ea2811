-- What a caller sees to before it starts an operation, and what the parts of an interface keep.
use Rattle.std.specs.Prelude.{ℕ, ◌≡◌, ◌<◌, ◌≤◌, ◌+◌, ◌%◌, length, Option, Some, None, All}
use Rattle.ptl_types.specs.declared.elements.ElemType.{ElemType}
use Rattle.ptl_types.specs.declared.headers.AckRequest.TheVariants.{NoAck}
use Rattle.ptl_types.specs.declared.entries.List.{List as EntryList}
use Rattle.ptl_types.specs.declared.entries.List.TheVariants.{Priority, Overflow}
use Rattle.ptl_types.specs.declared.calls.PutArgs.{PutArgs}
use Rattle.ptl_types.specs.declared.calls.GetArgs.{GetArgs}
use Rattle.ptl_types.specs.declared.calls.Limits.{Limits}
use Rattle.ptl_types.specs.declared.calls.TriggeredOp.{TriggeredOp}
use Rattle.ptl_types.specs.declared.calls.TriggeredOp.TheVariants.{Put, Get, Atomic, FetchAtomic, Swap}
use Rattle.ptl_types.specs.Operations.{bytes_of}
use Rattle.ptl_types.specs.Messages.{Sent, bytes_due}
use Rattle.ni_model.specs.declared.Linked.{Linked}
use Rattle.ni_model.specs.declared.Bound.{Bound}
use Rattle.ni_model.specs.Lists.{Index}
use Rattle.ni_model.specs.Headers.{UnexpectedList}

-- ---- starts

-- the message has no more bytes than the limit, and goes to a rank that there is
pub record MayGo (target length ranks most : ℕ) : Type 0 where
  pub target_known : target < ranks
  pub short : length ≤ most

-- whole elements, within the limit of atomics
pub record MayCombine (ty : ElemType) (length most : ℕ) : Type 0 where
  pub whole : length % bytes_of ty ≡ 0
  pub at_most : length ≤ most

-- the two sides of a fetching operation agree, and no acknowledgement is asked for
pub record MayFetch (g : GetArgs) (a : PutArgs) : Type 0 where
  pub length : g.length ≡ a.length
  pub target : g.target ≡ a.target
  pub pt : g.pt ≡ a.pt
  pub match_bits : g.match_bits ≡ a.match_bits
  pub remote_offset : g.remote_offset ≡ a.remote_offset
  pub no_ack : a.ack ≡ NoAck

-- a fetch-atomic has a limit of its own in place of that of an atomic, and a swap is of one element
abbrev pub MayStart : TriggeredOp → ℕ → Limits → Type 0
MayStart (Put a) ranks l = MayGo a.target a.length ranks l.msg
MayStart (Get g) ranks l = MayGo g.target g.length ranks l.msg
MayStart (Atomic a op ty) ranks l = MayGo a.target a.length ranks l.msg × MayCombine ty a.length l.atomic
MayStart (FetchAtomic g a op ty) ranks l = MayGo a.target a.length ranks l.msg × MayCombine ty a.length l.fetch_atomic × MayFetch g a
MayStart (Swap g a op ty operand) ranks l = MayGo a.target a.length ranks l.msg × (a.length ≡ bytes_of ty) × MayFetch g a
MayStart _ ranks l = Unit {0}

-- ---- what every interface keeps

-- an entry's part lies in the region
abbrev pub IsPartIn : ℕ → Linked → Type 0
IsPartIn size x = x.entry.start + x.entry.length ≤ size

-- the parts of all entries of an index do
abbrev pub HasPartsIn : ℕ → Option Index → Type 0
HasPartsIn size None = Unit {0}
HasPartsIn size (Some i) = All (IsPartIn size) i.priority × All (IsPartIn size) i.overflow

-- a descriptor's part does
abbrev pub IsBoundIn : ℕ → Bound → Type 0
IsBoundIn size b = b.md.start + b.md.length ≤ size

-- a header can be added
abbrev pub HasRoom : EntryList → UnexpectedList → Type 0
HasRoom Priority hs = Unit {0}
HasRoom Overflow hs = length hs.unexpected < hs.limit

-- ---- what a message keeps of its bytes
abbrev pub IsKept : Sent → Type 0
IsKept m = length m.bytes ≡ bytes_due m.header.kind m.header.ok m.header.length
