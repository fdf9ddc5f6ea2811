-- Plans of a size that can be judged.
use Rattle.std.specs.Prelude.{ℕ, ◌+◌, ◌-◌, ◌^◌, ◌<◌, ◌≤◌, List, length, sum_by}
use Rattle.plan_core.specs.Plan.{Plan}
use Rattle.plan_judge.specs.Causes.{first_other}

-- none of the rows of the whole plan is at fault
pub record IsSized (p : Plan) (lengths : List ℕ) : Type 0 where
  pub some_rank : 0 < p.ranks
  pub few_ranks : p.ranks ≤ 256
  pub all_there : first_other p lengths ≤ length p.cells
  pub few_cells : length p.cells < 2 ^ 24
  pub few_together : length p.cells + length p.links < 2 ^ 32 - 1
  pub few_bytes : sum_by (λ k. k.length) p.cells + sum_by (λ k. k.length) p.links < 2 ^ 64
