-- By `StepReturn`.
use Rattle.plan_choice.proofs.texts.view.StepReturn.{step_return}
use Rattle.plan_choice.proofs.texts.view.answer_comes_home.Goals as goal

pub returns : goal.returns
returns c = λ k ranks ks r seat a h fit plain. step_return k ranks ks r seat a h fit plain
