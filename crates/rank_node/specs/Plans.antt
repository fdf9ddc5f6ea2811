-- What is compiled for a rank of a plan.
use Rattle.std.specs.Prelude.{ℕ, ◌+◌, ◌≡◌, length, sum_by, if◌then◌else◌}
use Rattle.plan_core.specs.Plan.{Plan, link, own}
use Rattle.plan_core.specs.Values.{Inputs}
use Rattle.plan_core.specs.calls.Areas.{initial_region, links_to, longest_to}
use Rattle.plan_core.specs.calls.Calls.{own_cells, prepare_calls}
use Rattle.plan_core.specs.calls.Limits.{limits_for}
use Rattle.plan_core.specs.calls.RankOps.{sends_of}
use Rattle.rank_node.specs.Node.{Task}

-- its calls, cells and limits, and room for what comes to it: the messages of the links to its cells, and an answer for each message
-- that it sends, where completion waits for acknowledgements
pub record IsCompiledFor (p : Plan) (inputs : Inputs) (r : ℕ) (t : Task) : Type 0 where
  pub rank : t.rank ≡ r
  pub ranks : t.ranks ≡ p.ranks
  pub limits : t.limits ≡ limits_for p r
  pub region : t.region ≡ initial_region p inputs r
  pub cells : t.cells ≡ own p r
  pub calls : t.calls ≡ prepare_calls p r
  pub own : t.own ≡ own_cells p r
  pub go : t.go ≡ r
  pub longest : t.longest ≡ longest_to p r
  pub receipts : t.receipts ≡ length (links_to p r) + (if p.remote then sends_of p r else 0)
  pub bytes : t.bytes ≡ sum_by (λ l. (link p l).length) (links_to p r)
