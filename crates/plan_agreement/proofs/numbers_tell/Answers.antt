-- By `Telling`.
use Rattle.plan_agreement.proofs.Telling.{numbers_tell}
use Rattle.plan_agreement.proofs.numbers_tell.Goals as goal

pub returns : goal.returns
returns c = λ p o m wf bare own named all. numbers_tell p o m wf bare own named all
