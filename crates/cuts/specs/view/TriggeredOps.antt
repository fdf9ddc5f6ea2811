-- The triggered operations of a rank, and the messages that go along links.
use Rattle.std.specs.Prelude.{ℕ, true, ◌+◌, ◌*◌, ◌^◌, List, Option, Some, None, [], if◌then◌else◌}
use Rattle.ptl_types.specs.declared.elements.AtomicOp.{AtomicOp}
use Rattle.ptl_types.specs.declared.elements.ElemType.{ElemType}
use Rattle.ptl_types.specs.declared.elements.ElemType.TheVariants.{U8}
use Rattle.ptl_types.specs.declared.headers.Header.{Header}
use Rattle.ptl_types.specs.declared.headers.MessageKind.{MessageKind}
use Rattle.ptl_types.specs.declared.headers.MessageKind.TheVariants.{Put as PutKind, Atomic as AtomicKind}
use Rattle.ptl_types.specs.declared.headers.AckRequest.TheVariants.{NoAck, CtAck}
use Rattle.ptl_types.specs.declared.calls.PutArgs.{PutArgs}
use Rattle.ptl_types.specs.declared.calls.TriggeredOp.{TriggeredOp}
use Rattle.ptl_types.specs.declared.calls.TriggeredOp.TheVariants.{Put as PutAction, Atomic as AtomicAction, Inc as IncAction}
use Rattle.ptl_types.specs.Messages.{Sent, message}
use Rattle.ni_model.specs.Counts.{successes}
use Rattle.ni_model.specs.Arrive.{ack_header}
use Rattle.ni_model.specs.Starts.{put_header}
use Rattle.ni_model.specs.State.{Posted}
use Rattle.plan_core.specs.Plan.{Plan, cell, link, own, is_bump}
use Rattle.plan_core.specs.Places.{start_in}
use Rattle.plan_core.specs.calls.Bits.{cell_bits}
use Rattle.plan_core.specs.calls.RankOps.{RankOp, cell_of, number_of}
use Rattle.plan_core.specs.calls.RankOps.RankOp.{ForLink, ForDone}
use Rattle.cuts.specs.view.Slots.{Slots, cell_ct, done_ct, the_md}

-- the put arguments of link l
abbrev pub send_args : Plan → Slots → ℕ → PutArgs
send_args p s l = record {
  md = the_md s;
  local_offset = start_in p (own p (cell p (link p l).source).rank) (link p l).source + (link p l).source_offset;
  length = (link p l).length;
  ack = if p.remote then CtAck else NoAck;
  target = (cell p (link p l).target).rank;
  pt = 0;
  match_bits = cell_bits p (link p l).target * 2 ^ 16 + (cell p (link p l).source).rank;
  remote_offset = (link p l).target_offset;
  hdr_data = l;
}

-- a put, or an atomic where the target has an operation
abbrev pub send_action : Plan → Slots → ℕ → Option AtomicOp → TriggeredOp
send_action p s l None = PutAction (send_args p s l)
send_action p s l (Some o) = AtomicAction (send_args p s l) o (cell p (link p l).target).ty

-- what an operation of the plan does
abbrev pub action_of : Plan → Slots → RankOp → TriggeredOp
action_of p s (ForLink l) =
    if is_bump (link p l).kind
    then IncAction (cell_ct p s (link p l).target) (successes 1)
    else send_action p s l (cell p (link p l).target).op
action_of p s (ForDone c) = IncAction (done_ct s) (successes 1)

-- a triggered operation of the plan: its number, its action, its counter and its needs
abbrev pub operation : Plan → Slots → ℕ → RankOp → Posted
operation p s r w = record {
  number = number_of p r w;
  action = action_of p s w;
  ct = cell_ct p s (cell_of p w);
  threshold = (cell p (cell_of p w)).needs;
}

-- ---- messages

-- an atomic where the target has an operation
abbrev pub kind_for : Option AtomicOp → MessageKind
kind_for None = PutKind
kind_for (Some o) = AtomicKind

-- a put has bytes
abbrev pub type_for : Option AtomicOp → ElemType → ElemType
type_for None ty = U8
type_for (Some o) ty = ty

-- the header of a link's message, as its start makes it
abbrev pub link_header : Plan → Slots → ℕ → Header
link_header p s l =
    put_header (cell p (link p l).source).rank (kind_for (cell p (link p l).target).op) (send_args p s l)
    (cell p (link p l).target).op (type_for (cell p (link p l).target).op (cell p (link p l).target).ty)

-- with the bytes that it carries
abbrev pub link_message : Plan → Slots → ℕ → List ℕ → Sent
link_message p s l bytes = message (link_header p s l) bytes

-- its acknowledgement, where the plan is remote
abbrev pub ack_message : Plan → Slots → ℕ → Sent
ack_message p s l = message (record (ack_header true (link p l).length (link_header p s l)) { ack = CtAck }) []

-- none where the plan is not remote
abbrev pub ack_of : Plan → Slots → ℕ → Option Sent
ack_of p s l = if p.remote then Some (ack_message p s l) else None
