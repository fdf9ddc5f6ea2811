use Rattle.std.proofs.Common.{◌≡◌, map}
use Rattle.plan_core.specs.Plan.{from_to}
use Rattle.plan_costs.specs.State.{awaited_first}
use Rattle.plan_costs.proofs.state.all_awaited.Given as goal

abbrev pub invariant-loop-c : goal.invariant-loop-c
invariant-loop-c l = l.awaited.items ≡ map (awaited_first l.plan) (from_to 0 l.c)
