-- Sums over ranks, and how many messages a lane carries at most.
use Rattle.std.proofs.Common.{ℕ, suc, ◌+◌, ◌≡◌, ◌≤◌, length, sum_by, ap, ◌∙◌, arith}
use Rattle.std.proofs.lemmas.List.Sums.{sum_by_push}
use Rattle.ptl_types.specs.declared.headers.Lane.TheVariants.{Request}
use Rattle.number_lists.specs.Numbers.{from_to}
use Rattle.plan_core.proofs.Drawing.{from_to-more}
use Rattle.plan_core.specs.Plan.{Plan}
use Rattle.plan_core.specs.calls.Lanes.{goes_along, lane_messages}
use Rattle.plan_tables.proofs.Indexed.{at_most-filtered}

-- one number more
pub sum-more : (f : ℕ → ℕ) (k : ℕ) → sum_by f (from_to 0 (k + 1)) ≡ sum_by f (from_to 0 k) + f k
sum-more f k =
    ap (λ v. sum_by f (from_to 0 v)) (let e : k + 1 ≡ suc k = omega arith in e)
    ∙ ap (sum_by f) (from_to-more 0 k)
    ∙ sum_by_push f (from_to 0 k) (0 + k)
    ∙ ap (λ v. sum_by f (from_to 0 k) + f v) (let e : 0 + k ≡ k = omega arith in e)

-- a lane carries at most as many messages as there are links
pub few-messages : (p : Plan) (s d : ℕ) → lane_messages p s d Request ≤ length p.links
few-messages p s d = at_most-filtered (goes_along p s d) (length p.links)
