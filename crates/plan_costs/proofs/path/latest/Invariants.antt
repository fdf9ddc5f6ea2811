use Rattle.plan_costs.specs.Lasts.{IsLatestBelow}
use Rattle.plan_costs.proofs.path.latest.Given as goal

abbrev pub invariant-loop-c : goal.invariant-loop-c
invariant-loop-c l = IsLatestBelow l.plan l.times l.c l.latest
