-- By what the schedule keeps.
use Rattle.std.proofs.Common.{ap, ◌∙◌}
use Rattle.schedule_compiler.specs.Schedules.{ScheduleOf}
use Rattle.schedule_compiler.proofs.schedule.Schedule.buffers.Goals as goal

pub returns : goal.returns
returns c = c.self.invariant.buffers_are ∙ ap (λ (s : ScheduleOf). s.held.buffers) c.self.view_is
