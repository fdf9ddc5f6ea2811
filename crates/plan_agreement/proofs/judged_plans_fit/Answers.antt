-- By `Lists`.
use Rattle.plan_agreement.proofs.Lists.{judged_fit}
use Rattle.plan_agreement.proofs.judged_plans_fit.Goals as goal

pub returns : goal.returns
returns c = λ p o ranks none. judged_fit p o ranks none
