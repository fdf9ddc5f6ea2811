-- What goes between ranks has room.
use Rattle.std.proofs.Common.{ℕ, Bool, true, false, cond, ◌<◌, ◌≤◌, ◌+◌, ◌^◌, length, sum_by, arith}
use Rattle.std.proofs.lemmas.List.Sums.{sum_by-le-sum_by}
use Rattle.plan_core.specs.Plan.{Plan, all_links, from_to, link}
use Rattle.plan_tables.specs.Tables.{link_length}
use Rattle.plan_tables.proofs.Room.{at_most-link_bytes}
use Rattle.plan_costs.specs.Path.{bytes_by, messages_by}
use Rattle.plan_costs.specs.Times.{IsTimed, stays}
use Rattle.plan_costs.proofs.Sums.{sum_within}

pub one_message : (p : Plan) (l : ℕ) → messages_by p l ≤ 1
one_message p l = at (stays p l)
  where
    at : (b : Bool) → cond b 0 1 ≤ 1
    at true = omega arith
    at false = omega arith

bytes_within : (p : Plan) (l : ℕ) → bytes_by p l ≤ link_length p l
bytes_within p l = at (stays p l)
  where
    at : (b : Bool) → cond b 0 (link p l).length ≤ (link p l).length
    at true = omega arith
    at false = omega arith

pub bytes_fit : (p : Plan) (k : ℕ) → IsTimed p → k < length p.links → sum_by (bytes_by p) (from_to 0 k) + bytes_by p k < 2 ^ 64
bytes_fit p k timed h =
    let a = sum_within (bytes_by p) k (length p.links) h in
    let b = sum_by-le-sum_by (bytes_by p) (link_length p) (all_links p) (bytes_within p) in
    let c = at_most-link_bytes p timed.tabled in
    omega (arith, a, b, c)
