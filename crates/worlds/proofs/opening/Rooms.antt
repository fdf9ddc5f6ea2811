-- How many messages lie on a lane at most.
use Rattle.std.proofs.Common.{ℕ, Bool, true, false, ◌≤◌, length, arith, if◌then◌else◌}
use Rattle.std.proofs.lemmas.List.Sums.{count_by-le-length, length-filter}
use Rattle.ptl_types.specs.declared.headers.Lane.{Lane}
use Rattle.ptl_types.specs.declared.headers.Lane.TheVariants.{Request, Answer}
use Rattle.plan_core.specs.Plan.{Plan, all_links}
use Rattle.plan_core.specs.calls.Lanes.{goes_along, lane_links, lane_messages}
use Rattle.cuts.proofs.start.Starting.{length-from_to}

at_most-links : (p : Plan) (s d : ℕ) → length (lane_links p s d) ≤ length p.links
at_most-links p s d =
    let a = length-filter (goes_along p s d) (all_links p) in
    let b = count_by-le-length (goes_along p s d) (all_links p) in
    let c = length-from_to 0 (length p.links) in
    omega (arith, a, b, c)

-- no more than the plan has links
pub at_most-on_lane : (p : Plan) (s d : ℕ) (lane : Lane) → lane_messages p s d lane ≤ length p.links
at_most-on_lane p s d Request = at_most-links p s d
at_most-on_lane p s d Answer = at p.remote
  where
    at : (b : Bool) → (if b then length (lane_links p d s) else 0) ≤ length p.links
    at true = at_most-links p d s
    at false = omega arith
