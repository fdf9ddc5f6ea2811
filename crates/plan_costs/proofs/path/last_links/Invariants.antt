use Rattle.plan_costs.specs.Lasts.{AreLast}
use Rattle.plan_costs.proofs.path.last_links.Given as goal

abbrev pub invariant-loop-l : goal.invariant-loop-l
invariant-loop-l l = AreLast l.timed.numbers.now l.timed.plan.now l.timed.times.now l.l l.last.items
