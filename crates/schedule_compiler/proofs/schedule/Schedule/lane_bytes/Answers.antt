-- By what the schedule keeps.
use Rattle.std.proofs.Common.{ap, arith}
use Rattle.schedule_compiler.specs.Schedules.{ScheduleOf, scheduled}
use Rattle.schedule_compiler.proofs.Kept.{can-tabled}
use Rattle.schedule_compiler.proofs.schedule.Schedule.lane_bytes.Goals as goal

pub sent_bytes-requires-clause-tabled : goal.sent_bytes-requires-clause-tabled
sent_bytes-requires-clause-tabled c = can-tabled (scheduled c.self.inside.plan c.self.inside.held c.self.inside.inputs) c.self.invariant.can

pub sent_bytes-requires-clause-source : goal.sent_bytes-requires-clause-source
sent_bytes-requires-clause-source c =
    let v = ap (λ (s : ScheduleOf). s.plan.ranks) c.self.view_is in
    let h = c.requires.source in
    omega (arith, v, h)

pub sent_bytes-requires-clause-target : goal.sent_bytes-requires-clause-target
sent_bytes-requires-clause-target c =
    let v = ap (λ (s : ScheduleOf). s.plan.ranks) c.self.view_is in
    let h = c.requires.target in
    omega (arith, v, h)
