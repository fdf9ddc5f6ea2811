use Rattle.std.proofs.Common.{◌≤◌, subst, sym}
use Rattle.plan_core.specs.Sound.{SoundPlan}
use Rattle.schedule_compiler.specs.Schedules.{ScheduleOf}
use Rattle.rank_process.proofs.recalling.recall_job.Goals as goal

pub returns-clause-sound : goal.returns-clause-sound
returns-clause-sound c =
    subst (SoundPlan c.args.job.now.schedule.plan) (sym c.inputs.ensures.inputs.many)
    (subst (λ (s : ScheduleOf). SoundPlan s.plan s.inputs) c.schedule.ensures c.recall_schedule.ensures.sound)

pub returns-clause-few : goal.returns-clause-few
returns-clause-few c = subst (λ (s : ScheduleOf). s.plan.ranks ≤ 256) c.schedule.ensures c.recall_schedule.ensures.few
