-- By `Called`.
use Rattle.plan_choice.proofs.texts.view.Called.{installed}
use Rattle.plan_choice.proofs.texts.view.installation.Goals as goal

pub returns : goal.returns
returns c = λ k ranks ks r. installed k ranks ks r
