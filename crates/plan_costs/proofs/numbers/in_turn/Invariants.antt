use Rattle.std.proofs.Common.{◌≡◌, ◌<◌, ◌^◌, sum_by}
use Rattle.plan_core.specs.Plan.{from_to}
use Rattle.plan_costs.specs.Times.{alone}
use Rattle.plan_costs.proofs.numbers.in_turn.Given as goal

abbrev pub invariant-loop-l : goal.invariant-loop-l
invariant-loop-l l = (l.sum ≡ sum_by (alone l.numbers l.plan) (from_to 0 l.l)) × (l.sum < 2 ^ 64)
