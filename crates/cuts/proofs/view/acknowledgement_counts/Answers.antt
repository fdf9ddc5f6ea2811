-- By `StepArrive`.
use Rattle.cuts.proofs.view.StepArrive.{step_ack, due-here}
use Rattle.cuts.proofs.view.acknowledgement_counts.Goals as goal

pub returns : goal.returns
returns c = λ annex plan inputs slots r seen m h d. step_ack annex plan inputs slots r seen m h
    (due-here annex plan inputs slots r seen m h d)
