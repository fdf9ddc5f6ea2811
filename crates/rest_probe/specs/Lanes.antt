-- The lanes of a rank that messages go on.
use Rattle.std.specs.Prelude.{ℕ, Bool, List, [], ◌∷◌, ◌++◌, if◌then◌else◌, flat_map}
use Rattle.ptl_types.specs.declared.headers.Lane.{Lane}
use Rattle.ptl_types.specs.declared.headers.Lane.TheVariants.{Request, Answer}
use Rattle.number_lists.specs.Numbers.{from_to}
use Rattle.plan_core.specs.Plan.{Plan}
use Rattle.plan_core.specs.calls.Lanes.{is_used_lane}
use Rattle.rest_probe.specs.declared.notes.LaneCount.{LaneCount}

-- no message on the lane, if it is used
abbrev pub lane_if : Bool → ℕ → Lane → List LaneCount
lane_if used r lane = if used then record { rank = r; lane = lane; number = 0 } ∷ [] else []

-- the lanes from rank s to rank d that messages go on, request first, none noted; the rank at the other end is `other`
abbrev pub pair_lanes : Plan → ℕ → ℕ → ℕ → List LaneCount
pair_lanes p s d other = lane_if (is_used_lane p s d Request) other Request ++ lane_if (is_used_lane p s d Answer) other Answer

-- the lanes from rank r, by target
abbrev pub lanes_from : Plan → ℕ → List LaneCount
lanes_from p r = flat_map (λ d. pair_lanes p r d d) (from_to 0 p.ranks)

-- the lanes to rank r, by source
abbrev pub lanes_to : Plan → ℕ → List LaneCount
lanes_to p r = flat_map (λ s. pair_lanes p s r s) (from_to 0 p.ranks)
