use Rattle.log_verdict.specs.Steps.Delivers.{Sent}
use Rattle.log_verdict.proofs.arriving.deliver.Goals as goal

pub returns-in_ok-step-in-Some : goal.returns-in_ok-step-in-Some
returns-in_ok-step-in-Some c = Sent c.in-Some.age (cc) c.in_ok-step-in-Some.ensures
