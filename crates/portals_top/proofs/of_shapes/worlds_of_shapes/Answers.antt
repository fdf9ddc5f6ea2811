use Rattle.std.proofs.Common.{subst}
use Rattle.cuts.specs.cells.Cells.{AreCellsInOrder, AreValues, AreValuesAt}
use Rattle.job_laws.proofs.Cuts.{barriers_by_order, meant_at_rank, meant_by_values, steps_by_order}
use Rattle.schedule_compiler.specs.Schedules.{ScheduleOf}
use Rattle.worlds.proofs.Ends.{order_in}
use Rattle.worlds.specs.World.{histories_in}
use Rattle.portals_top.proofs.of_shapes.worlds_of_shapes.Goals as goal

pub returns : goal.returns
returns c = record {
  steps = λ o w slots is standing agree. steps_by_order o w.inputs slots (histories_in w) is.formed is.accepted
      (subst (λ (s : ScheduleOf). AreCellsInOrder s.plan w.inputs slots (histories_in w)) is.schedule (order_in w slots standing agree));
  barriers = λ o w slots is standing agree. barriers_by_order o w.inputs slots (histories_in w) is.formed is.accepted
      (subst (λ (s : ScheduleOf). AreCellsInOrder s.plan w.inputs slots (histories_in w)) is.schedule (order_in w slots standing agree));
  meant = λ o w memory is values. meant_by_values o w.inputs memory is.formed is.given
      (subst (λ (s : ScheduleOf). AreValues s.plan w.inputs memory) is.schedule values);
  meant_at_rank = λ o w r memory is h values. meant_at_rank o w.inputs r memory is.formed is.given h
      (subst (λ (s : ScheduleOf). AreValuesAt s.plan w.inputs r memory) is.schedule values);
}
