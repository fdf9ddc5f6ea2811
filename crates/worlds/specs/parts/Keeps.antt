-- What the parts of a world keep.
use Rattle.std.specs.Prelude.{ℕ, true, false, not, ◌+◌, ◌*◌, ◌<◌, ◌≤◌, ◌≡◌, List, length, count_by, sum_by, min}
use Rattle.std.specs.Prelude.{slice_index_or}
use Rattle.ptl_types.specs.declared.headers.Lane.{Lane}
use Rattle.ptl_types.specs.declared.headers.Lane.TheVariants.{Request, Answer}
use Rattle.ptl_types.specs.Messages.{Sent}
use Rattle.pair_wires.specs.Lanes.{Plain}
use Rattle.plan_core.specs.calls.Lanes.{lane_messages}
use Rattle.plan_core.specs.Members.{In}
use Rattle.plan_core.specs.Plan.{Plan, from_to}
use Rattle.plan_core.specs.Sound.{SoundPlan, AreInputsOf}
use Rattle.plan_core.specs.Values.{Inputs}
use Rattle.cuts.specs.view.Slots.{Slots}
use Rattle.cuts.specs.histories.Cut.{is_received_stray, is_stray, owned}
use Rattle.cuts.specs.histories.Moment.{IsMoment}
use Rattle.cuts.specs.histories.Plans.{system_of}
pub use Rattle.rank_node.specs.of_plan.Ranks.{AreGates, AreShort, IsRank}
use Rattle.cuts.specs.windows.Places.{lane_place}
use Rattle.rank_node.specs.Handles.{Agrees}
use Rattle.rank_node.specs.Node.{IsNode, NodeState, stray_bytes}
use Rattle.rank_node.specs.Plans.{IsCompiledFor}
use Rattle.worlds.specs.declared.parts.traffic.Traffic.{Traffic}
use Rattle.worlds.specs.parts.Layout.{lane_at, node_at, scene_of}
use Rattle.worlds.specs.parts.Marks.{delivery_count, firing_count, lane_has, start_count}

-- the slots are those that the nodes' tables gave so far
abbrev pub AgreeAll : ℕ → (ℕ → Slots) → List NodeState → Type 0
AgreeAll n k nodes = (r : ℕ) → r < n → Agrees (k r) (node_at nodes r).kept

-- strays lie in request lanes alone
abbrev pub spare_on : Lane → ℕ → ℕ
spare_on Request spare = spare
spare_on Answer spare = 0

-- the nodes are the ranks of a moment of the plan, and the lanes have room for what can come
pub record AreParts (p : Plan) (inputs : Inputs) (n : ℕ) (nodes : List NodeState) (lanes : List Plain) (window spare : ℕ) : Type 0 where
  pub at_most : n ≤ 256
  pub count : p.ranks ≡ n
  pub sound : SoundPlan p (length inputs)
  pub fit : AreInputsOf p inputs
  pub some : 0 < window
  pub size : length nodes ≡ n
  pub wide : length lanes ≡ 2 * (n * n)
  pub compiled : (r : ℕ) → r < n → IsCompiledFor p inputs r (node_at nodes r).task
  pub node : (r : ℕ) → r < n → IsNode (node_at nodes r)
  -- whatever slots will be given
  pub moment : (k : ℕ → Slots) → AgreeAll n k nodes →
      IsMoment (system_of p inputs k) (scene_of n nodes lanes).world (scene_of n nodes lanes).held
  pub room : (s d : ℕ) (lane : Lane) → s < n → d < n →
      min window (lane_messages p s d lane) + spare_on lane spare ≤ (lane_at lanes (lane_place n s d lane)).capacity
  -- strays left out
  pub within : (s d : ℕ) (lane : Lane) → s < n → d < n →
      length (owned (lane_at lanes (lane_place n s d lane)).messages) ≤ window

-- how many strays rank d received, and how many lie in the lanes to it
abbrev pub strays_for : ℕ → List NodeState → List Plain → ℕ → ℕ
strays_for n nodes lanes d =
    count_by is_received_stray (node_at nodes d).diary.locals
    + sum_by (λ s. count_by is_stray (lane_at lanes (lane_place n s d Request)).messages) (from_to 0 n)

-- each node has room for the strays that came, that lie in lanes, and that may still be injected; each is short
pub record AreStrays (n : ℕ) (nodes : List NodeState) (lanes : List Plain) (strays spare : ℕ) : Type 0 where
  pub room : (r : ℕ) → r < n → (node_at nodes r).strays ≡ spare
  pub at_most : (d : ℕ) → d < n → strays_for n nodes lanes d + strays ≤ spare
  pub received : (r : ℕ) → r < n → AreShort (node_at nodes r).diary.locals
  pub held : (s d : ℕ) (lane : Lane) (m : Sent) → s < n → d < n → In m (lane_at lanes (lane_place n s d lane)).messages →
      is_stray m ≡ true → length m.bytes ≤ stray_bytes

-- the counts and the gates are those of the parts, place by place
pub record AreCounted (n : ℕ) (nodes : List NodeState) (lanes : List Plain) (starts deliveries firings : List ℕ) (window : ℕ)
    : Type 0 where
  pub wide_starts : length starts ≡ n
  pub wide_deliveries : length deliveries ≡ 2 * (n * n)
  pub wide_firings : length firings ≡ n
  pub of_starts : (r : ℕ) → r < n → slice_index_or starts r 0 ≡ start_count (node_at nodes r)
  pub of_firings : (r : ℕ) → r < n → slice_index_or firings r 0 ≡ firing_count (node_at nodes r)
  pub of_deliveries : (s d : ℕ) (lane : Lane) → s < n → d < n →
      slice_index_or deliveries (lane_place n s d lane) 0 ≡ delivery_count lanes n window s d lane
  pub gates : (r d : ℕ) → r < n → d < n →
      slice_index_or (node_at nodes r).closed d false ≡ not (lane_has lanes n window r d Request)

-- the nodes of a plan's ranks, and the traffic between them: its lanes, counts and window, and the strays that may still be injected
pub record IsWorld (p : Plan) (inputs : Inputs) (nodes : List NodeState) (t : Traffic) : Type 0 where
  pub parts : AreParts p inputs t.setting.ranks nodes t.lanes t.setting.window t.setting.spare
  pub counted : AreCounted t.setting.ranks nodes t.lanes t.starts t.deliveries t.firings t.setting.window
  pub stray : AreStrays t.setting.ranks nodes t.lanes t.setting.strays t.setting.spare

-- of some plan and its inputs
pub record IsSomeWorld (nodes : List NodeState) (t : Traffic) : Type 0 where
  pub plan : Plan
  pub inputs : Inputs
  pub world : IsWorld plan inputs nodes t
