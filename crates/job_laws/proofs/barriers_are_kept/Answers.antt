use Rattle.job_laws.proofs.Cuts.{barriers_by_order, ordered}
use Rattle.job_laws.proofs.barriers_are_kept.Goals as goal

pub returns : goal.returns
returns c = λ o inputs slots world formed accepted given cut.
    barriers_by_order o inputs slots world formed accepted (ordered o inputs slots world formed accepted given cut)
