use Rattle.std.proofs.Common.{subst, sym}
use Rattle.schedule_compiler.specs.Schedules.{ScheduleOf}
use Rattle.plan_core.specs.Sound.{SoundPlan}
use Rattle.rank_slots.proofs.soundness.recall_soundness.Goals as goal

pub returns : goal.returns
returns c =
    let given = c.inputs.ensures.inputs in
    let sound = subst (λ (s : ScheduleOf). SoundPlan s.plan s.inputs) c.schedule-schedule.ensures c.plan.ensures.sound in record {
      plan = subst (SoundPlan c.args.job.now.schedule.plan) (sym given.many) sound;
      inputs = given.fit;
    }
