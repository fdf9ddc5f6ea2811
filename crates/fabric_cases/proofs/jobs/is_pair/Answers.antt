use Rattle.std.proofs.Common.{◌≡◌, true, nat_lt, subst}
use Rattle.schedule_compiler.specs.Schedules.{ScheduleOf}
use Rattle.ptl_types.specs.declared.headers.Lane.TheVariants.{Request}
use Rattle.plan_core.specs.calls.Lanes.{is_used_lane}
use Rattle.fabric_cases.proofs.jobs.is_pair.Goals as goal

pub returns-clause-lane : goal.returns-clause-lane
returns-clause-lane c = λ t. subst (λ (o : ScheduleOf). is_used_lane o.plan 0 1 Request ≡ true) c.schedule-schedule.ensures
    (subst (λ n. nat_lt 0 n ≡ true) c.lane.ensures t)
