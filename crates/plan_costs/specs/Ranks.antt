-- When each rank is done.
use Rattle.std.specs.Prelude.{ℕ, ◌≡◌, ◌<◌, List, length, get_or}
use Rattle.plan_core.specs.Plan.{Plan}
use Rattle.plan_tables.specs.Tables.{rank_of}
use Rattle.plan_costs.specs.Soonest.{IsSoonest}
use Rattle.plan_costs.specs.Times.{TimesOf}

-- a cell of rank r, below k
pub record IsOwn (p : Plan) (k r c : ℕ) : Type 0 where
  pub known : c < k
  pub there : rank_of p c ≡ r

-- each rank's cells below k are reached
pub record AreRankTimes (p : Plan) (t : TimesOf) (k : ℕ) (ranks : List ℕ) : Type 0 where
  pub count : length ranks ≡ p.ranks
  pub times : (r : ℕ) → IsSoonest 0 (IsOwn p k r) (λ c. get_or t.cells c 0) (get_or ranks r 0)
