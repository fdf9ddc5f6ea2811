use Rattle.log_verdict.specs.Steps.DeliversAged.{Early}
use Rattle.log_verdict.proofs.arriving.deliver_aged.Goals as goal

pub returns-in_ok-step-in-Some : goal.returns-in_ok-step-in-Some
returns-in_ok-step-in-Some c = Early c.in-Some.first (cc) c.in_ok-step-in-Some.ensures
