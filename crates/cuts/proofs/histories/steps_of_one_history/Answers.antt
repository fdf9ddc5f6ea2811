-- The law of `StepBounds`.
use Rattle.cuts.specs.view.Calls.{prepare}
use Rattle.cuts.specs.histories.Plans.{start_of}
use Rattle.cuts.proofs.histories.FromCut.{prepared_of}
use Rattle.cuts.proofs.histories.StepBounds.{few_steps}
use Rattle.cuts.proofs.histories.steps_of_one_history.Goals as goal

pub returns : goal.returns
returns c = λ plan inputs slots r history sound legal. few_steps plan slots r (start_of plan slots r) history
    (prepare plan inputs slots r) (prepared_of plan inputs sound slots r) legal
