-- The one encoding of a message: eight codes, four numbers of four bytes, seven of eight, lowest byte first, and then its bytes.
use Rattle.std.specs.Prelude.{ℕ, ◌<◌, ◌^◌, List, [], ◌∷◌, ◌++◌, Option, Some, None, is_some}
use Rattle.std.specs.List.{flat_map}
use Rattle.std.specs.Int.{w32, w64, to_le_bytes}
use Rattle.ptl_types.specs.declared.handles.Handle.{Handle}
use Rattle.ptl_types.specs.declared.headers.Header.{Header}
use Rattle.ptl_types.specs.Filled.{filled}
use Rattle.ptl_types.specs.Messages.{Sent, FillsHeader}
use Rattle.message_codec.specs.Codes.{kind_code, ack_code, operation_code, swap_code, type_code, flag_code}

abbrev pub codes : Header → List ℕ
codes h =
    kind_code h.kind ∷ flag_code h.ok ∷ ack_code h.ack ∷ operation_code h.op ∷ swap_code h.swap ∷ type_code h.ty
    ∷ flag_code (is_some h.home) ∷ 0 ∷ []

-- the descriptor that awaits the answer: 0 twice where none does
abbrev pub home_slot : Option Handle → ℕ
home_slot None = 0
home_slot (Some home) = home.slot

abbrev pub home_stamp : Option Handle → ℕ
home_stamp None = 0
home_stamp (Some home) = home.stamp

abbrev pub words : Header → List ℕ
words h = flat_map (to_le_bytes w32) (h.source ∷ h.target ∷ h.pt ∷ home_slot h.home ∷ [])

abbrev pub double_words : Header → List ℕ
double_words h = flat_map (to_le_bytes w64)
    (h.match_bits ∷ h.offset ∷ h.length ∷ h.hdr_data ∷ h.operand ∷ home_stamp h.home ∷ h.home_offset ∷ [])

abbrev pub encoding : Sent → List ℕ
encoding m = codes m.header ++ ((words m.header ++ double_words m.header) ++ m.bytes)

-- each number fits its bytes
pub record NumbersFit (h : Header) : Type 0 where
  pub source : h.source < 2 ^ 32
  pub target : h.target < 2 ^ 32
  pub pt : h.pt < 2 ^ 32
  pub slot : home_slot h.home < 2 ^ 32
  pub match_bits : h.match_bits < 2 ^ 64
  pub offset : h.offset < 2 ^ 64
  pub length : h.length < 2 ^ 64
  pub hdr_data : h.hdr_data < 2 ^ 64
  pub operand : h.operand < 2 ^ 64
  pub stamp : home_stamp h.home < 2 ^ 64
  pub home_offset : h.home_offset < 2 ^ 64

-- what every message of a program keeps
pub record HasEncoding (m : Sent) : Type 0 where
  pub fit : NumbersFit m.header
  pub fills : (room : ℕ) × FillsHeader m.header (filled m.bytes room)
