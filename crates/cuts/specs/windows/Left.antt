-- How many steps the ranks of a moment can still make, where each receives at most so many strays: a start, a firing of each operation,
-- and the receipts.
use Rattle.std.specs.Prelude.{ℕ, suc, ◌+◌, ◌-◌, length, sum_by, if◌then◌else◌}
use Rattle.plan_core.specs.Plan.{Plan, from_to}
use Rattle.plan_core.specs.calls.Areas.{links_to}
use Rattle.plan_core.specs.calls.RankOps.{sends_of, rank_ops}
use Rattle.cuts.specs.orders.Chosen.{Scene}

-- of rank r in all
abbrev pub steps_of : Plan → ℕ → ℕ → ℕ
steps_of p strays r = suc (length (rank_ops p r)) + (strays + (length (links_to p r) + (if p.remote then sends_of p r else 0)))

-- what is left of them, of all ranks
abbrev pub steps_left : Plan → ℕ → Scene → ℕ
steps_left p strays z = sum_by (λ r. steps_of p strays r - length (z.world r)) (from_to 0 p.ranks)
