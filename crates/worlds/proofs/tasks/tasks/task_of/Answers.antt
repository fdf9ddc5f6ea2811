-- Field by field.
use Rattle.std.proofs.Common.{◌+◌, length, sum_by, if◌then◌else◌, refl, ap, ap₂, ◌∙◌}
use Rattle.plan_core.specs.Plan.{Plan, link, own}
use Rattle.plan_core.specs.Values.{Inputs}
use Rattle.plan_core.specs.calls.Areas.{initial_region, links_to, longest_to}
use Rattle.plan_core.specs.calls.Calls.{own_cells, prepare_calls}
use Rattle.plan_core.specs.calls.Limits.{limits_for}
use Rattle.plan_core.specs.calls.RankOps.{sends_of}
use Rattle.plan_tables.specs.Installed.{Installed}
use Rattle.schedule_compiler.specs.Schedules.{ScheduleOf}
use Rattle.worlds.proofs.tasks.tasks.task_of.Goals as goal

pub returns : goal.returns
returns c = record {
  rank = refl;
  ranks = c.ranks.ensures ∙ ap (λ (q : Plan). q.ranks) c.plan.ensures.value
      ∙ ap (λ (o : ScheduleOf). o.plan.ranks) c.schedule-schedule.ensures;
  limits = c.limits-limits.ensures ∙ ap (λ (t : Installed). t.limits) c.in_ok-table.ensures
      ∙ ap (λ (o : ScheduleOf). limits_for o.plan c.args.r) c.schedule-schedule.ensures;
  region = c.in_ok-region.ensures
      ∙ ap₂ (λ (o : ScheduleOf) (v : Inputs). initial_region o.plan v c.args.r) c.schedule-schedule.ensures c.inputs.ensures.value;
  cells = c.into_lists-cells.ensures.cells ∙ ap (λ (t : Installed). t.cells) c.in_ok-table.ensures
      ∙ ap (λ (o : ScheduleOf). own o.plan c.args.r) c.schedule-schedule.ensures;
  calls = c.into_lists-cells.ensures.calls ∙ ap (λ (t : Installed). t.calls) c.in_ok-table.ensures
      ∙ ap (λ (o : ScheduleOf). prepare_calls o.plan c.args.r) c.schedule-schedule.ensures;
  own = c.in_ok-own.ensures ∙ ap (λ (o : ScheduleOf). own_cells o.plan c.args.r) c.schedule-schedule.ensures;
  go = refl;
  longest = c.longest-longest.ensures ∙ ap (λ (t : Installed). t.longest) c.in_ok-table.ensures
      ∙ ap (λ (o : ScheduleOf). longest_to o.plan c.args.r) c.schedule-schedule.ensures;
  receipts = c.receipts_of-receipts.ensures
      ∙ ap (λ (o : ScheduleOf). length (links_to o.plan c.args.r) + (if o.plan.remote then sends_of o.plan c.args.r else 0))
      c.schedule-schedule.ensures;
  bytes = c.bytes_to.ensures
      ∙ ap (λ (o : ScheduleOf). sum_by (λ l. (link o.plan l).length) (links_to o.plan c.args.r)) c.schedule-schedule.ensures;
}
