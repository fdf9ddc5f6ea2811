use Rattle.std.proofs.Common.{◌∙◌, ap, subst, sym}
use Rattle.schedule_compiler.specs.Schedules.{ScheduleOf}
use Rattle.schedule_compiler.specs.Jobs.{JobOf}
use Rattle.rest_probe.specs.Waves.{IsFor}
use Rattle.rank_slots.proofs.Slotwise.{on_ok}
use Rattle.fabric_cases.proofs.waves.room.Goals as goal

pub returns : goal.returns
returns c = on_ok c.open.result
    (λ w h. subst (λ (o : ScheduleOf). IsFor o.plan w) (c.schedule.ensures ∙ sym (ap (λ (j : JobOf). j.schedule) c.requires)) h)
    c.open.ensures.lanes
