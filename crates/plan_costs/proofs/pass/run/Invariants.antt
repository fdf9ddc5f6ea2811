use Rattle.plan_costs.specs.State.{IsPass, events_left}
use Rattle.plan_costs.proofs.pass.run.Given as goal

abbrev pub invariant-loop-event : goal.invariant-loop-event
invariant-loop-event l = IsPass l.course.numbers l.course.plan.now l.state l.queue

abbrev pub decreases-loop-event : goal.decreases-loop-event
decreases-loop-event l = events_left l.course.plan.now l.state
