-- By what the schedule keeps.
use Rattle.std.proofs.Common.{◌≡◌, IfOk, ap, arith, subst}
use Rattle.schedule_compiler.specs.Schedules.{ScheduleOf, scheduled}
use Rattle.plan_tables.specs.Installed.{installed}
use Rattle.schedule_compiler.proofs.Kept.{can-tabled}
use Rattle.schedule_compiler.proofs.schedule.Schedule.rank.Goals as goal

pub rank-requires-clause-tabled : goal.rank-requires-clause-tabled
rank-requires-clause-tabled c = can-tabled (scheduled c.self.inside.plan c.self.inside.held c.self.inside.inputs) c.self.invariant.can

pub rank-requires-clause-rank : goal.rank-requires-clause-rank
rank-requires-clause-rank c =
    let v = ap (λ (s : ScheduleOf). s.plan.ranks) c.self.view_is in
    let h = c.requires in
    omega (arith, v, h)

pub returns : goal.returns
returns c = subst (λ (s : ScheduleOf). IfOk c.rank.result (λ t. t ≡ installed s.plan c.args.r)) c.self.view_is c.rank.ensures
