-- A frame: the lanes of a job and room for its counts, for a world whose nodes come from elsewhere.
use Rattle.std.specs.Prelude.{ℕ, ◌<◌, ◌≤◌, ◌≡◌, List, [], ◌++◌, length, min}
use Rattle.ptl_types.specs.declared.headers.Lane.{Lane}
use Rattle.pair_wires.specs.Lanes.{Plain}
use Rattle.plan_core.specs.calls.Lanes.{lane_messages}
use Rattle.cuts.specs.view.Slots.{Slots}
use Rattle.cuts.specs.histories.History.{got}
use Rattle.cuts.specs.histories.Plans.{system_of}
use Rattle.cuts.specs.histories.System.{sent_by}
use Rattle.cuts.specs.windows.Places.{lane_place}
use Rattle.schedule_compiler.specs.Jobs.{JobOf}
use Rattle.rank_node.specs.Node.{NodeState}
use Rattle.rank_node.specs.Plans.{IsCompiledFor}
use Rattle.worlds.specs.parts.Keeps.{AgreeAll}
use Rattle.worlds.specs.parts.Layout.{lane_at, node_at, scene_of}
pub use Rattle.worlds.specs.opening.Frames.{frame_lane}
use Rattle.worlds.specs.opening.Frames.{IsSameButGates, frame_window}
use Rattle.worlds.specs.FrameState.{FrameState}
use Rattle.worlds.specs.World.{AreSlots, WorldState, scene_in}

-- a frame of this job, with empty lanes
pub record IsFrameOf (job : JobOf) (f : FrameState) : Type 0 where
  pub schedule : f.schedule ≡ job.schedule
  pub inputs : f.inputs ≡ job.inputs
  pub lanes : (s d : ℕ) (lane : Lane) → s < job.schedule.plan.ranks → d < job.schedule.plan.ranks →
      lane_at f.lanes (lane_place job.schedule.plan.ranks s d lane) ≡ frame_lane job.schedule.plan s d lane

-- the lane of the frame between two ranks
abbrev pub lane_in : FrameState → ℕ → ℕ → Lane → Plain
lane_in f s d lane = lane_at f.lanes (lane_place f.schedule.plan.ranks s d lane)

-- a node for each rank of the frame's job, by rank, without room for strays
pub record AreNodesOf (f : FrameState) (nodes : List NodeState) : Type 0 where
  pub size : length nodes ≡ f.schedule.plan.ranks
  pub compiled : (r : ℕ) → r < f.schedule.plan.ranks → IsCompiledFor f.schedule.plan f.inputs r (node_at nodes r).task
  pub strays : (r : ℕ) → r < f.schedule.plan.ranks → (node_at nodes r).strays ≡ 0

-- such nodes received from ranks alone; on each lane what was sent is what was received, followed by what lies in the frame's lane; and
-- each of these has room and holds no more than it may
pub record MayClose (f : FrameState) (nodes : List NodeState) : Type 0 where
  pub of_job : AreNodesOf f nodes
  pub sources : (r s : ℕ) (lane : Lane) → r < f.schedule.plan.ranks → f.schedule.plan.ranks ≤ s →
      got (node_at nodes r).diary.locals s lane ≡ []
  -- whatever slots will be given
  pub sent : (slots : ℕ → Slots) → AgreeAll f.schedule.plan.ranks slots nodes →
      (s d : ℕ) (lane : Lane) → s < f.schedule.plan.ranks → d < f.schedule.plan.ranks →
      got (node_at nodes d).diary.locals s lane ++ (lane_in f s d lane).messages
      ≡ sent_by (system_of f.schedule.plan f.inputs slots) (scene_of f.schedule.plan.ranks nodes f.lanes).world s d lane
  pub room : (s d : ℕ) (lane : Lane) → s < f.schedule.plan.ranks → d < f.schedule.plan.ranks →
      min frame_window (lane_messages f.schedule.plan s d lane) ≤ (lane_in f s d lane).capacity
  pub within : (s d : ℕ) (lane : Lane) → s < f.schedule.plan.ranks → d < f.schedule.plan.ranks →
      length (lane_in f s d lane).messages ≤ frame_window

-- the world of the frame's job under the frame's window, with these nodes, but for which of their lanes they take to be closed, and with
-- the frame's lanes: its histories are theirs, and what is on its way lies in these
pub record IsClosed (f : FrameState) (nodes : List NodeState) (w : WorldState) : Type 0 where
  pub schedule : w.schedule ≡ f.schedule
  pub inputs : w.inputs ≡ f.inputs
  pub window : w.window ≡ frame_window
  pub strays : w.strays ≡ 0
  pub spare : w.spare ≡ 0
  pub lanes : w.lanes ≡ f.lanes
  pub same : (r : ℕ) → IsSameButGates (node_at nodes r) (node_at w.nodes r)
  pub scene : scene_in w ≡ scene_of f.schedule.plan.ranks nodes f.lanes
  pub slots : (k : ℕ → Slots) → AreSlots w k → AgreeAll f.schedule.plan.ranks k nodes
