-- By `Called`.
use Rattle.plan_choice.proofs.texts.view.Called.{all_pass}
use Rattle.plan_choice.proofs.texts.view.installation_is_accepted.Goals as goal

pub returns : goal.returns
returns c = λ k ranks ks r some at_most. all_pass k ranks ks r some at_most
