use Rattle.std.proofs.Common.{refl}
use Rattle.log_verdict.specs.Steps.CallsSeat.{Taken}
use Rattle.log_verdict.proofs.steps.call_open.Goals as goal

pub returns-in-Some : goal.returns-in-Some
returns-in-Some c = Taken c.in-Some.column (cc) (rw c.flawed.ensures refl)
