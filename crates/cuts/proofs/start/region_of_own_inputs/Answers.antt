-- By `Own`.
use Rattle.cuts.proofs.start.Own.{region-same}
use Rattle.cuts.proofs.start.region_of_own_inputs.Goals as goal

pub returns : goal.returns
returns c = λ plan inputs others r sound size same. region-same plan inputs others r sound size same
