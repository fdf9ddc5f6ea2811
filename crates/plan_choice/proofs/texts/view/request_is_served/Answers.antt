-- By `StepServe` and `StepStart`.
use Rattle.plan_choice.proofs.texts.view.StepServe.{step_serve}
use Rattle.plan_choice.proofs.texts.view.StepStart.{served_view}
use Rattle.plan_choice.proofs.texts.view.request_is_served.Goals as goal

pub returns-clause-served : goal.returns-clause-served
returns-clause-served c = λ k theirs ranks ks seat s r reads at_most h i j. step_serve k ranks ks seat s h at_most theirs r reads i j

pub returns-clause-unseen : goal.returns-clause-unseen
returns-clause-unseen c = λ k ranks ks r seat s w. served_view k ranks ks r seat s w
