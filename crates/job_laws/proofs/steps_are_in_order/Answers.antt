use Rattle.job_laws.proofs.Cuts.{ordered, steps_by_order}
use Rattle.job_laws.proofs.steps_are_in_order.Goals as goal

pub returns : goal.returns
returns c = λ o inputs slots world formed accepted given cut.
    steps_by_order o inputs slots world formed accepted (ordered o inputs slots world formed accepted given cut)
