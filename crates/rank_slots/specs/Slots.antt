-- What a slot of the table keeps: the ends of a rank's wires tell what its history says.
use Rattle.std.specs.Prelude.{ℕ, true, ◌≡◌, ◌<◌, List}
use Rattle.ptl_types.specs.declared.headers.Lane.{Lane}
use Rattle.ptl_types.specs.Messages.{Sent}
use Rattle.pair_wires.specs.Bounds.{KeepsBounds}
use Rattle.plan_core.specs.Plan.{Plan}
use Rattle.plan_core.specs.Values.{Inputs}
use Rattle.plan_core.specs.calls.Lanes.{is_used_lane}
use Rattle.cuts.specs.view.Calls.{prepare}
use Rattle.cuts.specs.view.Slots.{Slots}
use Rattle.cuts.specs.histories.History.{got, sent}
use Rattle.cuts.specs.histories.Plans.{start_of}
use Rattle.rank_node.specs.Handles.{Agrees}
use Rattle.rank_node.specs.Node.{NodeState}
use Rattle.rank_node.specs.Plans.{IsCompiledFor}
use Rattle.rank_slots.specs.declared.ports.OutPort.{OutPort}
use Rattle.rank_slots.specs.declared.ports.InPort.{InPort}
use Rattle.rank_slots.specs.Lists.{Each}
use Rattle.rank_slots.specs.Lanes.{bounds_on}
use Rattle.rank_slots.specs.Ports.{Gated, InsDiffer, OutsDiffer}

-- these are the messages that the rank sent to rank d on a lane, whatever slots will be given
abbrev pub HasSent : Plan → Inputs → NodeState → ℕ → Lane → List Sent → Type 0
HasSent p inputs n d lane ms =
    (k : Slots) → Agrees k n.kept → ms ≡ sent (start_of p k n.task.rank) (prepare p inputs k n.task.rank) n.diary.locals d lane

-- the out end of a lane sent what the history says
pub record OutOk (p : Plan) (inputs : Inputs) (n : NodeState) (o : OutPort) : Type 0 where
  pub used : is_used_lane p n.task.rank o.target o.lane ≡ true
  pub inside : o.target < n.task.ranks
  pub bounds : o.end.bounds ≡ bounds_on p n.task.rank o.target o.lane
  pub sent_is : HasSent p inputs n o.target o.lane o.end.sent

-- the in end of a lane received what the history says
pub record InOk (p : Plan) (n : NodeState) (i : InPort) : Type 0 where
  pub bounds : i.end.bounds ≡ bounds_on p i.source n.task.rank i.lane
  pub got_is : i.end.received ≡ got n.diary.locals i.source i.lane

-- what was received keeps what the plan says of each lane
abbrev pub HasHeard : Plan → NodeState → Type 0
HasHeard p n = (s : ℕ) (lane : Lane) → KeepsBounds (bounds_on p s n.task.rank lane) (got n.diary.locals s lane)

-- the node is of a rank of the plan and has room for its messages alone, what it received keeps what the plan says, and the ends tell
-- what its history says; true of any ends of the rank, fewer and more
pub record Tied (p : Plan) (inputs : Inputs) (n : NodeState) (outs : List OutPort) (ins : List InPort) : Type 0 where
  pub compiled : IsCompiledFor p inputs n.task.rank n.task
  pub strays : n.strays ≡ 0
  pub heard : HasHeard p n
  pub out : Each (OutOk p inputs n) outs
  pub into : Each (InOk p n) ins
  pub outs_differ : OutsDiffer outs
  pub ins_differ : InsDiffer ins
  -- the node knows where a request waits
  pub gated : Gated n.closed outs
