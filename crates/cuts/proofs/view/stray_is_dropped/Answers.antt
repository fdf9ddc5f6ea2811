-- By `StepArrive`.
use Rattle.cuts.proofs.view.StepArrive.{step_stray}
use Rattle.cuts.proofs.view.stray_is_dropped.Goals as goal

pub returns : goal.returns
returns c = λ annex plan inputs slots r seen m quiet sound a b d. step_stray annex quiet plan inputs sound slots r seen m a b d
