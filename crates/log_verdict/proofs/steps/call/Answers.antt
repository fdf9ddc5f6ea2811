use Rattle.std.proofs.Common.{refl}
use Rattle.log_verdict.specs.Steps.CallComes.{Flawed}
use Rattle.log_verdict.proofs.steps.call.Goals as goal

pub returns-in-Some : goal.returns-in-Some
returns-in-Some c = Flawed c.in-Some.fault (cc) refl
