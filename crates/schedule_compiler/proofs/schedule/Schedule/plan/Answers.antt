-- By what the schedule keeps.
use Rattle.std.proofs.Common.{◌+◌, ◌<◌, ◌^◌, length, subst}
use Rattle.plan_core.specs.Sound.{SoundPlan}
use Rattle.schedule_compiler.specs.Schedules.{ScheduleOf}
use Rattle.schedule_compiler.proofs.schedule.Schedule.plan.Goals as goal

pub returns-clause-sound : goal.returns-clause-sound
returns-clause-sound c = subst (λ (s : ScheduleOf). SoundPlan s.plan s.inputs) c.self.view_is c.self.invariant.can.sound

pub returns-clause-at_most : goal.returns-clause-at_most
returns-clause-at_most c = subst (λ (s : ScheduleOf). length s.plan.cells + length s.plan.links < 2 ^ 27) c.self.view_is
    c.self.invariant.can.at_most
