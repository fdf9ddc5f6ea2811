use Rattle.job_laws.proofs.Cuts.{barriers_by_order, steps_by_order}
use Rattle.job_laws.proofs.order_is_kept.Goals as goal

pub returns : goal.returns
returns c = record {
  steps = λ o inputs slots world formed accepted order. steps_by_order o inputs slots world formed accepted order;
  barriers = λ o inputs slots world formed accepted order. barriers_by_order o inputs slots world formed accepted order;
}
