-- The counts of what is possible, over the parts of a world.
use Rattle.std.specs.Prelude.{ℕ, Bool, not, ◌&&◌, ◌<◌, List, [], ◌∷◌, ◌++◌, length, count_by, nat_lt, drop, Option, Some, None}
use Rattle.std.specs.Prelude.{slice_set, if◌then◌else◌}
use Rattle.ptl_types.specs.declared.headers.Lane.{Lane}
use Rattle.ptl_types.specs.declared.headers.Lane.TheVariants.{Request, Answer}
use Rattle.ptl_types.specs.Kinds.{lane_of}
use Rattle.ptl_types.specs.Messages.{Sent}
use Rattle.pair_wires.specs.Lanes.{Plain, plain}
use Rattle.cuts.specs.histories.History.{is_start}
use Rattle.cuts.specs.windows.Places.{lane_place}
use Rattle.rank_node.specs.Gates.{open_numbers}
use Rattle.rank_node.specs.Node.{NodeState, gated_node}
use Rattle.worlds.specs.declared.parts.traffic.Traffic.{Traffic}
use Rattle.worlds.specs.parts.Layout.{node_at, lane_at}

-- a further message fits under the window
abbrev pub lane_has : List Plain → ℕ → ℕ → ℕ → ℕ → Lane → Bool
lane_has lanes n window s d lane = nat_lt (length (lane_at lanes (lane_place n s d lane)).messages) window

-- the first message of the lane may be delivered
abbrev pub lane_may : List Plain → ℕ → ℕ → ℕ → ℕ → Lane → Bool
lane_may lanes n window s d Request =
    nat_lt 0 (length (lane_at lanes (lane_place n s d Request)).messages) && lane_has lanes n window d s Answer
lane_may lanes n window s d Answer = nat_lt 0 (length (lane_at lanes (lane_place n s d Answer)).messages)

-- one start, where there was none
abbrev pub start_count : NodeState → ℕ
start_count n = if nat_lt 0 (count_by is_start n.diary.locals) then 0 else 1

-- what is ready after open lanes
abbrev pub firing_count : NodeState → ℕ
firing_count n = length (open_numbers n.closed n.nic)

-- one delivery, where it may be made
abbrev pub delivery_count : List Plain → ℕ → ℕ → ℕ → ℕ → Lane → ℕ
delivery_count lanes n window s d lane = if lane_may lanes n window s d lane then 1 else 0

-- each set at its place
abbrev pub start_mark : List NodeState → ℕ → List ℕ → List ℕ
start_mark nodes r xs = slice_set xs r (start_count (node_at nodes r))

abbrev pub firing_mark : List NodeState → ℕ → List ℕ → List ℕ
firing_mark nodes r xs = slice_set xs r (firing_count (node_at nodes r))

abbrev pub delivery_mark : List Plain → ℕ → ℕ → ℕ → ℕ → Lane → List ℕ → List ℕ
delivery_mark lanes n window s d lane xs = slice_set xs (lane_place n s d lane) (delivery_count lanes n window s d lane)

-- the deliveries and the firings counted anew
abbrev pub with_marks : Traffic → List ℕ → List ℕ → Traffic
with_marks t deliveries firings = record t { deliveries = deliveries; firings = firings }

-- the lane by which what comes on this one is answered, or was asked for
abbrev pub lane_back : Lane → Lane
lane_back Request = Answer
lane_back Answer = Request

-- node s knows whether its request lane to d has room
abbrev pub gated : List Plain → ℕ → ℕ → ℕ → ℕ → List NodeState → List NodeState
gated lanes n window s d nodes = slice_set nodes s (gated_node d (not (lane_has lanes n window s d Request)) (node_at nodes s))

-- a message of rank r at the end of its lane
abbrev pub sent_out : ℕ → ℕ → Sent → List Plain → List Plain
sent_out n r m lanes =
    let k = lane_place n r m.header.target (lane_of m.header.kind) in
    slice_set lanes k (plain ((lane_at lanes k).messages ++ m ∷ []) (lane_at lanes k).capacity)

-- what rank r makes, if anything, at the end of its lane
abbrev pub out_with : ℕ → ℕ → Option Sent → List Plain → List Plain
out_with n r None lanes = lanes
out_with n r (Some m) lanes = sent_out n r m lanes

-- the rank that it is for; none is for r itself
abbrev pub receiver : ℕ → Option Sent → ℕ
receiver r None = r
receiver r (Some m) = m.header.target

-- it goes to a rank, and its lane has room
abbrev pub HasPlace : ℕ → ℕ → List Plain → Option Sent → Type 0
HasPlace n r lanes None = Unit {0}
HasPlace n r lanes (Some m) =
    let lane = lane_at lanes (lane_place n r m.header.target (lane_of m.header.kind)) in
    (m.header.target < n) × (length lane.messages < lane.capacity)

-- a lane without its first message
abbrev pub popped : ℕ → ℕ → ℕ → Lane → List Plain → List Plain
popped n s d lane lanes =
    let k = lane_place n s d lane in
    slice_set lanes k (plain (drop 1 (lane_at lanes k).messages) (lane_at lanes k).capacity)
