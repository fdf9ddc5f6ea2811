use Rattle.plan_costs.proofs.Walking.{Walking}
use Rattle.plan_costs.proofs.path.walk.Given as goal

abbrev pub invariant-loop-at : goal.invariant-loop-at
invariant-loop-at l = Walking l.timed.numbers.now l.timed.plan.now l.timed.times.now l.end l.at l.links.items l.spent

abbrev pub decreases-loop-at : goal.decreases-loop-at
decreases-loop-at l = l.at
