-- By what a job keeps.
use Rattle.std.proofs.Common.{subst}
use Rattle.schedule_compiler.specs.Jobs.{AreInputsFor, JobOf}
use Rattle.schedule_compiler.proofs.job.Job.inputs.Goals as goal

pub returns-clause-inputs : goal.returns-clause-inputs
returns-clause-inputs c = subst (λ (j : JobOf). AreInputsFor j.schedule j.inputs) c.self.view_is c.self.invariant
