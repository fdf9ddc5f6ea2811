-- Where a rank stands: its node, and what is still due; what keeps a frame from being taken.
use Rattle.std.specs.Prelude.{ℕ, not, ◌&&◌, ◌==◌, ◌+◌, ◌-◌, ◌≡◌, ◌≤◌, ◌<◌, ◌^◌, nat_lt, length, count_by}
use Rattle.std.specs.Prelude.{Bool, Option, Some, None, Result, Ok, Err, if◌then◌else◌}
use Rattle.ptl_types.specs.Kinds.{is_answer, lane_of}
use Rattle.ptl_types.specs.Messages.{Sent}
use Rattle.ni_model.specs.Answers.{is_awaited}
use Rattle.cuts.specs.histories.Cut.{is_stray}
use Rattle.cuts.specs.histories.History.{is_start}
use Rattle.rank_node.specs.Node.{IsNode, NodeState, fired_node, received_node}
use Rattle.message_codec.specs.Reading.{header_length}
use Rattle.message_codec.specs.declared.fault.Fault.{Fault}
use Rattle.rank_frames.specs.Due.{Dues, due_on, messages_due, with_taken}
use Rattle.rank_frames.specs.Frames.{nobody}
use Rattle.rank_frames.specs.declared.fault.FrameFault.{FrameFault}
use Rattle.rank_frames.specs.declared.fault.FrameFault.TheVariants.{Mark, Source, TooLong}
use Rattle.rank_frames.specs.declared.fault.FrameFault.TheVariants.{Message, OtherSource, OtherTarget, OtherJob, Lane, NotAwaited, TooMany}
use Rattle.rank_frames.specs.declared.fault.Stop.{Stop}
use Rattle.rank_frames.specs.declared.fault.Stop.TheVariants.{Read, Write, NoMemory, Frame}

pub record PlaceState : Type 0 where
  pub me : ℕ
  pub node : NodeState
  pub due : Dues

-- The node has room for all that is due. Each rank has both lanes.
pub record IsPlace (p : PlaceState) : Type 0 where
  pub node : IsNode p.node
  pub rank : p.node.nic.rank ≡ p.me
  pub lanes : length p.due.answers ≡ length p.due.requests
  pub at_most : length p.due.requests < 2 ^ 32
  pub receipts : messages_due p.due ≤ p.node.diary.receipts
  pub bytes : p.due.bytes ≤ p.node.diary.bytes

-- after a firing
abbrev pub fired_place : ℕ → PlaceState → PlaceState
fired_place t p = record p { node = fired_node t p.node }

-- after the receipt of a message on its lane, which is due no more
abbrev pub received_place : ℕ → Sent → PlaceState → PlaceState
received_place source m p = record p {
  node = received_node source (lane_of m.header.kind) m p.node;
  due = with_taken p.due source (lane_of m.header.kind) (length m.bytes);
}

-- there was no start
abbrev pub is_new : PlaceState → Bool
is_new p = count_by is_start p.node.diary.locals == 0

-- how many frames it may still take: one for each message that is due, and the mark of its start
abbrev pub frames_left : PlaceState → ℕ
frames_left p = messages_due p.due + (if is_new p then 1 else 0)

-- what keeps the bytes behind a frame's head from being read: a mark that isn't that of a first start; no rank's number; a length beyond
-- that of a message with all bytes that are due
abbrev pub fault_of_head : PlaceState → ℕ → ℕ → Option FrameFault
fault_of_head p source count =
    if source == nobody then (if (count == 0) && is_new p then None else Some Mark)
    else if not (nat_lt source (length p.due.requests)) then Some Source
    else if nat_lt p.due.bytes (count - header_length) then Some TooLong
    else None

-- a frame is refused for its head
abbrev pub RefusesHead : Stop → Option FrameFault → Type 0
RefusesHead (Frame fault) found = found ≡ Some fault
RefusesHead _ found = ⊥

-- what keeps a message of this source from being received: the first of these, in this order
abbrev pub fault_of : PlaceState → ℕ → Sent → Option FrameFault
fault_of p source m =
    if not (m.header.source == source) then Some OtherSource
    else if not (m.header.target == p.me) then Some OtherTarget
    else if is_stray m then Some OtherJob
    else if due_on p.due source (lane_of m.header.kind) == 0 then Some Lane
    else if is_answer m.header.kind && not (is_awaited p.node.nic.mds.live) then Some NotAwaited
    else if nat_lt p.due.bytes (length m.bytes) then Some TooMany
    else None

-- a frame of this source is refused for what its bytes read as, where memory doesn't run out
abbrev pub Refuses : PlaceState → ℕ → Stop → Result Sent Fault → Type 0
Refuses p source (Frame fault) (Ok m) = fault_of p source m ≡ Some fault
Refuses p source (Frame refused) (Err fault) = refused ≡ Message fault
Refuses p source NoMemory read = Unit {0}
Refuses p source Read read = ⊥
Refuses p source Write read = ⊥
