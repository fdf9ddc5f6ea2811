-- What the parts of a world stand for: its nodes by rank, and its lanes by their places.
use Rattle.std.specs.Prelude.{ℕ, ◌&&◌, nat_lt, List, [], slice_index_or, if◌then◌else◌}
use Rattle.ptl_types.specs.declared.calls.Limits.{Limits}
use Rattle.ni_model.specs.State.{opened}
use Rattle.pair_wires.specs.Lanes.{Plain, plain}
use Rattle.cuts.specs.histories.Moment.{Lanes}
use Rattle.cuts.specs.orders.Chosen.{Scene}
use Rattle.cuts.specs.windows.Places.{lane_place}
use Rattle.rank_node.specs.Handles.{no_handles}
use Rattle.rank_node.specs.Node.{NodeState}

-- past the last rank
abbrev pub no_limits : Limits
no_limits = record { entries = 0; unexpected = 0; mds = 0; cts = 0; eqs = 0; pts = 0; triggered = 0; msg = 0; atomic = 0; fetch_atomic = 0 }

abbrev pub no_node : NodeState
no_node = record {
  task = record {
    rank = 0;
    ranks = 1;
    limits = no_limits;
    region = [];
    cells = [];
    calls = [];
    own = [];
    go = 0;
    longest = 0;
    receipts = 0;
    bytes = 0;
  };
  kept = no_handles (record { counters = 0; entries = 0; descriptors = 0 });
  diary = record { locals = []; steps = []; room = 0; receipts = 0; bytes = 0 };
  nic = opened 0 1 no_limits [];
  strays = 0;
  closed = [];
}

-- the node of a rank
abbrev pub node_at : List NodeState → ℕ → NodeState
node_at nodes r = slice_index_or nodes r no_node

-- the lane of a place
abbrev pub lane_at : List Plain → ℕ → Plain
lane_at lanes i = slice_index_or lanes i (plain [] 0)

-- what lies in the lanes between n ranks
abbrev pub held_in : ℕ → List Plain → Lanes
held_in n lanes s d lane = if nat_lt s n && nat_lt d n then (lane_at lanes (lane_place n s d lane)).messages else []

-- the histories, and what is on its way
abbrev pub scene_of : ℕ → List NodeState → List Plain → Scene
scene_of n nodes lanes = record { world = λ r. (node_at nodes r).diary.locals; held = held_in n lanes }
