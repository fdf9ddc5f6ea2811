-- What a contract sees of a message, and what every message keeps.
use Rattle.std.specs.Prelude.{ℕ, Bool, ◌≡◌, ◌≤◌, ◌%◌, List, length, is_some, IsTrue, if◌then◌else◌}
use Rattle.ptl_types.specs.declared.headers.Header.{Header}
use Rattle.ptl_types.specs.declared.headers.MessageKind.{MessageKind}
use Rattle.ptl_types.specs.declared.headers.MessageKind.TheVariants.{Get, Ack as AckKind, Reply}
use Rattle.ptl_types.specs.Filled.{Filled}
use Rattle.ptl_types.specs.Kinds.{has_elements, has_op, is_swap}
use Rattle.ptl_types.specs.Operations.{bytes_of}

pub record Sent : Type 0 where
  pub header : Header
  pub bytes : List ℕ

abbrev pub message : Header → List ℕ → Sent
message header bytes = record { header = header; bytes = bytes }

-- how many bytes go with a header of this kind, with this `ok` and length
abbrev pub bytes_due : MessageKind → Bool → ℕ → ℕ
bytes_due Get ok n = 0
bytes_due AckKind ok n = 0
bytes_due Reply ok n = if ok then n else 0
bytes_due _ ok n = n

-- how much room a get brings for its reply
abbrev pub room_due : MessageKind → ℕ → ℕ
room_due Get n = n
room_due _ n = 0

-- bytes and header belong together
pub record FillsHeader (h : Header) (b : Filled) : Type 0 where
  pub bytes : length b.list ≡ bytes_due h.kind h.ok h.length
  pub room : room_due h.kind h.length ≤ b.room
  pub whole : IsTrue (has_elements h.kind) → h.length % bytes_of h.ty ≡ 0
  pub op : is_some h.op ≡ has_op h.kind
  pub swap : is_some h.swap ≡ is_swap h.kind
  pub one : IsTrue (is_swap h.kind) → h.length ≡ bytes_of h.ty
