-- By `StepArrive`.
use Rattle.cuts.proofs.view.StepArrive.{step_link}
use Rattle.cuts.proofs.view.message_lands.Goals as goal

pub returns : goal.returns
returns c = λ annex plan inputs slots theirs r l seen bytes quiet sound h sized e. step_link annex quiet plan inputs sound slots theirs r
    l seen h sized bytes e
