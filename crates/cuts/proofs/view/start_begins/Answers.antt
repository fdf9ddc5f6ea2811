-- By `StepFire`.
use Rattle.cuts.proofs.view.StepFire.{step_start}
use Rattle.cuts.proofs.view.start_begins.Goals as goal

pub returns : goal.returns
returns c = λ annex plan inputs slots r seen sound h e. step_start annex plan inputs sound slots r h seen e
