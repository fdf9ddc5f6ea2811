-- The lanes between ranks: how many messages and bytes each carries in all.
use Rattle.std.specs.Prelude.{ℕ, Bool, ◌==◌, ◌&&◌, nat_lt, List, if◌then◌else◌, length, filter, sum_by}
use Rattle.ptl_types.specs.declared.headers.Lane.{Lane}
use Rattle.ptl_types.specs.declared.headers.Lane.TheVariants.{Answer, Request}
use Rattle.plan_core.specs.Plan.{Plan, all_links, cell, link}
use Rattle.plan_core.specs.calls.RankOps.{is_message}

-- a message goes along the link from rank s to rank d
abbrev pub goes_along : Plan → ℕ → ℕ → ℕ → Bool
goes_along p s d l = is_message p l && (((cell p (link p l).source).rank == s) && ((cell p (link p l).target).rank == d))

-- the links along which messages go from a cell of rank s to a cell of rank d
abbrev pub lane_links : Plan → ℕ → ℕ → List ℕ
lane_links p s d = filter (goes_along p s d) (all_links p)

-- the bytes of the requests from rank s to rank d together; answers carry none
abbrev pub lane_bytes : Plan → ℕ → ℕ → ℕ
lane_bytes p s d = sum_by (λ l. (link p l).length) (lane_links p s d)

-- the messages on the lane from rank s to rank d: requests along links, and where the plan is remote an answer to each request that
-- goes the other way
abbrev pub lane_messages : Plan → ℕ → ℕ → Lane → ℕ
lane_messages p s d Request = length (lane_links p s d)
lane_messages p s d Answer = if p.remote then length (lane_links p d s) else 0

-- messages may go on the lane
abbrev pub is_used_lane : Plan → ℕ → ℕ → Lane → Bool
is_used_lane p s d lane = nat_lt 0 (lane_messages p s d lane)
