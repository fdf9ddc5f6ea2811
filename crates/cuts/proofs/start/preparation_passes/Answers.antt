-- The law of `Unrefused`.
use Rattle.cuts.proofs.start.Unrefused.{all_pass}
use Rattle.cuts.proofs.start.preparation_passes.Goals as goal

pub returns : goal.returns
returns c = λ plan inputs slots r sound fit. all_pass plan inputs sound fit slots r
