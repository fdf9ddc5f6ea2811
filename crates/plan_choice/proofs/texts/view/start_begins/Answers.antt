-- By `StepStart` and `StepFire`.
use Rattle.plan_choice.proofs.texts.view.StepStart.{started_view}
use Rattle.plan_choice.proofs.texts.view.StepFire.{increment_starts}
use Rattle.plan_choice.proofs.texts.view.start_begins.Goals as goal

pub returns-clause-raised : goal.returns-clause-raised
returns-clause-raised c = λ k ranks ks r seat e. started_view k ranks ks r seat e

pub returns-clause-accepted : goal.returns-clause-accepted
returns-clause-accepted c = λ k ranks ks r seat e. increment_starts k ranks ks r seat e
