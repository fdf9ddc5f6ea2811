-- By what a sound plan has.
use Rattle.std.proofs.Common.{subst, arith}
use Rattle.schedule_compiler.specs.Schedules.{ScheduleOf}
use Rattle.worlds.specs.opening.Laying.{FitLanes}
use Rattle.worlds.proofs.world.recall_few_links.Goals as goal

pub returns : goal.returns
returns c = subst (λ (o : ScheduleOf). FitLanes o.plan 0) c.schedule.ensures (let q = c.plan.ensures.sound.few_together in omega (arith, q))
