-- By what the schedule keeps.
use Rattle.std.proofs.Common.{ap, arith}
use Rattle.schedule_compiler.specs.Schedules.{ScheduleOf, scheduled}
use Rattle.schedule_compiler.proofs.Kept.{can-tabled}
use Rattle.schedule_compiler.proofs.schedule.Schedule.done.Goals as goal

pub done-requires-clause-tabled : goal.done-requires-clause-tabled
done-requires-clause-tabled c = can-tabled (scheduled c.self.inside.plan c.self.inside.held c.self.inside.inputs) c.self.invariant.can

pub done-requires-clause-rank : goal.done-requires-clause-rank
done-requires-clause-rank c =
    let v = ap (λ (s : ScheduleOf). s.plan.ranks) c.self.view_is in
    let h = c.requires in
    omega (arith, v, h)
