use Rattle.job_laws.proofs.Cuts.{meant_where_done}
use Rattle.job_laws.proofs.done_is_meant.Goals as goal

pub returns : goal.returns
returns c = λ o inputs slots world formed accepted given cut r h done.
    meant_where_done o inputs slots world formed accepted given cut r h done
