use Rattle.std.proofs.Common.{◌≡◌, map}
use Rattle.plan_core.specs.Plan.{all_cells, link}
use Rattle.plan_tables.specs.Rising.{of_key}
use Rattle.plan_costs.proofs.pass.links_from.Given as goal

abbrev pub invariant-loop-l : goal.invariant-loop-l
invariant-loop-l l = l.table ≡ map (of_key (λ m. (link l.plan m).source) l.l) (all_cells l.plan)
