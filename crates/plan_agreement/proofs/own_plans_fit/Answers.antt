-- By `Lists`.
use Rattle.plan_agreement.proofs.Lists.{own_fit}
use Rattle.plan_agreement.proofs.own_plans_fit.Goals as goal

pub returns : goal.returns
returns c = λ o wf none. own_fit o wf none
