-- Frames: the number of a rank, a length, and so many bytes; both numbers have four bytes, lowest first.
use Rattle.std.specs.Prelude.{ℕ, ◌-◌, ◌<◌, ◌≡◌, ◌^◌, ◌⊎◌, List, [], ◌++◌, length, Option}
use Rattle.std.specs.List.{flat_map}
use Rattle.std.specs.Int.{w32, to_le_bytes}
use Rattle.ptl_types.specs.Messages.{Sent}
use Rattle.port_io.specs.Counts.{Rose}
use Rattle.port_io.specs.Ends.{GivesFront, Inflow, IsAtEnd}
use Rattle.cuts.specs.histories.History.{Local}
use Rattle.cuts.specs.histories.History.Local.{Start, Receive, Fire}
use Rattle.message_codec.specs.Encoding.{encoding}
use Rattle.rank_frames.specs.declared.fault.Stop.{Stop}
use Rattle.rank_frames.specs.declared.fault.Stop.TheVariants.{Read, NoMemory}

-- the number that names no rank
abbrev pub nobody : ℕ
nobody = 2 ^ 32 - 1

abbrev pub head : ℕ → ℕ → List ℕ
head rank n = to_le_bytes w32 rank ++ to_le_bytes w32 n

abbrev pub frame : ℕ → List ℕ → List ℕ
frame rank bytes = head rank (length bytes) ++ bytes

-- the mark of a rank's start, among what it is given, and of its end, among what it writes: a frame of nobody without bytes
abbrev pub mark : List ℕ
mark = frame nobody []

-- a frame for each message, to its target, in order
abbrev pub frames_of : List Sent → List ℕ
frames_of ms = flat_map (λ m. frame m.header.target (encoding m)) ms

-- what a step is given
abbrev pub given : Local → List ℕ
given Start = mark
given (Receive source lane m) = frame source (encoding m)
given (Fire t) = []

-- what the steps of a history are given, in order
abbrev pub frames_for : List Local → List ℕ
frames_for es = flat_map given es

-- ---- a source that doesn't give a whole frame

-- the source is at its end behind bytes of which P holds
pub record EndsBehind (before after : Option (List ℕ)) (P : List ℕ → Type 0) : Type 0 where
  pub bytes : List ℕ
  pub front : GivesFront before after bytes
  pub at_end : IsAtEnd after
  pub so : P bytes

-- why no more came: a read failed, or the source is at its end
abbrev pub RunsDry : Inflow → Inflow → (List ℕ → Type 0) → Type 0
RunsDry before after P = Rose before.faults after.faults ⊎ EndsBehind before.left after.left P

-- so many bytes didn't come
abbrev pub Lacks : Stop → Inflow → Inflow → ℕ → Type 0
Lacks Read before after count = RunsDry before after (λ bytes. length bytes < count)
Lacks _ before after count = ⊥

-- ... or there was no room for them, and nothing was read
abbrev pub LacksRoom : Stop → Inflow → Inflow → ℕ → Type 0
LacksRoom NoMemory before after count = after ≡ before
LacksRoom e before after count = Lacks e before after count

-- a head, and fewer bytes than it tells of
pub record LacksBytes (bytes : List ℕ) : Type 0 where
  pub rank : ℕ
  pub count : ℕ
  pub behind : List ℕ
  pub is : bytes ≡ head rank count ++ behind
  pub fewer : length behind < count

-- a beginning of a frame that isn't whole, or nothing
abbrev pub IsPart : List ℕ → Type 0
IsPart bytes = (length bytes < 8) ⊎ LacksBytes bytes
