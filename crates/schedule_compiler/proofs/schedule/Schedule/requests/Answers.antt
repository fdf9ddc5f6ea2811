-- By what the schedule keeps.
use Rattle.std.proofs.Common.{ap, arith}
use Rattle.schedule_compiler.specs.Schedules.{ScheduleOf, scheduled}
use Rattle.schedule_compiler.proofs.Kept.{can-tabled}
use Rattle.schedule_compiler.proofs.schedule.Schedule.requests.Goals as goal

pub messages-requires-clause-tabled : goal.messages-requires-clause-tabled
messages-requires-clause-tabled c = can-tabled (scheduled c.self.inside.plan c.self.inside.held c.self.inside.inputs) c.self.invariant.can

pub messages-requires-clause-source : goal.messages-requires-clause-source
messages-requires-clause-source c =
    let v = ap (λ (s : ScheduleOf). s.plan.ranks) c.self.view_is in
    let h = c.requires.source in
    omega (arith, v, h)

pub messages-requires-clause-target : goal.messages-requires-clause-target
messages-requires-clause-target c =
    let v = ap (λ (s : ScheduleOf). s.plan.ranks) c.self.view_is in
    let h = c.requires.target in
    omega (arith, v, h)
