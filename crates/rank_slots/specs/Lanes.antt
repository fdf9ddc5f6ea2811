-- The lanes of a job that messages go on, and what each carries at most.
use Rattle.std.specs.Prelude.{ℕ, zero, suc, true, ◌≡◌, ◌<◌, List, [], ◌∷◌, ◌++◌, if◌then◌else◌}
use mathlib.Core.Option.{some}
use lib.ListN.{get_elem?}
use Rattle.ptl_types.specs.declared.headers.Lane.{Lane}
use Rattle.ptl_types.specs.declared.headers.Lane.TheVariants.{Request, Answer}
use Rattle.pair_wires.specs.declared.bounds.Bounds.{Bounds}
use Rattle.plan_core.specs.Plan.{Plan}
use Rattle.plan_core.specs.calls.Lanes.{is_used_lane, lane_bytes, lane_messages}
use Rattle.rank_slots.specs.Lists.{Each}

-- how many bytes go on a lane in all; answers carry none
abbrev pub bytes_on : Plan → ℕ → ℕ → Lane → ℕ
bytes_on p s d Request = lane_bytes p s d
bytes_on p s d Answer = 0

-- what goes from rank s to rank d on a lane in all
abbrev pub bounds_on : Plan → ℕ → ℕ → Lane → Bounds
bounds_on p s d lane = record { source = s; target = d; lane = lane; messages = lane_messages p s d lane; bytes = bytes_on p s d lane }

-- one lane, if messages go on it
abbrev pub bounds_if_used : Plan → ℕ → ℕ → Lane → List Bounds
bounds_if_used p s d lane = if is_used_lane p s d lane then bounds_on p s d lane ∷ [] else []

-- the lanes from rank s to those below d that messages go on
abbrev pub lanes_below : Plan → ℕ → ℕ → List Bounds
lanes_below p s zero = []
lanes_below p s (suc d) = (lanes_below p s d ++ bounds_if_used p s d Request) ++ bounds_if_used p s d Answer

abbrev pub lanes_from : Plan → ℕ → List Bounds
lanes_from p s = lanes_below p s p.ranks

-- the lanes from the ranks below s
abbrev pub lanes_before : Plan → ℕ → List Bounds
lanes_before p zero = []
lanes_before p (suc s) = lanes_before p s ++ lanes_from p s

-- a lane of the plan between two of its ranks, that messages go on
pub record IsLane (p : Plan) (b : Bounds) : Type 0 where
  pub source : b.source < p.ranks
  pub target : b.target < p.ranks
  pub used : is_used_lane p b.source b.target b.lane ≡ true
  pub bounds : b ≡ bounds_on p b.source b.target b.lane

-- the lane stands among these
pub record HasLane (lanes : List Bounds) (s d : ℕ) (lane : Lane) : Type 0 where
  pub at : ℕ
  pub bounds : Bounds
  pub there : get_elem? lanes at ≡ some bounds
  pub source : bounds.source ≡ s
  pub target : bounds.target ≡ d
  pub lane_is : bounds.lane ≡ lane

-- these are the lanes of the plan that messages go on, each once
pub record AreLanes (p : Plan) (lanes : List Bounds) : Type 0 where
  pub each : Each (IsLane p) lanes
  pub once : (i k : ℕ) (b c : Bounds) → get_elem? lanes i ≡ some b → get_elem? lanes k ≡ some c
      → b.source ≡ c.source → b.target ≡ c.target → b.lane ≡ c.lane → i ≡ k
  pub all : (s d : ℕ) (lane : Lane) → is_used_lane p s d lane ≡ true → HasLane lanes s d lane
