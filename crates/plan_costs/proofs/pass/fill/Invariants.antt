use Rattle.plan_costs.specs.State.{Filled}
use Rattle.plan_costs.proofs.pass.fill.Given as goal

abbrev pub invariant-loop-c : goal.invariant-loop-c
invariant-loop-c l = Filled l.plan l.state l.c l.queue
