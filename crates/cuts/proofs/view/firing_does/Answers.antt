-- By `StepFire`.
use Rattle.cuts.proofs.view.StepFire.{ready_work, step_fire}
use Rattle.cuts.proofs.view.firing_does.Goals as goal

pub returns : goal.returns
returns c = λ annex plan inputs slots r seen t sound sized e. let w = ready_work annex plan inputs sound slots r seen t e in
    (w.0, w.1.ours, w.1.pending, step_fire annex plan inputs sound slots r seen t w.0 sized w.1)
