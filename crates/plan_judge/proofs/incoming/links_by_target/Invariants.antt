use Rattle.std.proofs.Common.{◌≡◌, map}
use Rattle.plan_core.specs.Plan.{all_cells, link}
use Rattle.plan_tables.specs.Rising.{of_key}
use Rattle.plan_judge.proofs.incoming.links_by_target.Given as goal

abbrev pub invariant-loop-l : goal.invariant-loop-l
invariant-loop-l l = l.into ≡ map (of_key (λ k. (link l.plan k).target) l.l) (all_cells l.plan)
