use Rattle.cuts.specs.histories.Plans.{system_of}
use Rattle.rank_node.proofs.of_plan.Firing.{open-possible}
use Rattle.rank_node.proofs.of_plan.Receiving.{rank-state}
use Rattle.rank_node.proofs.of_plan.open_firings_are_possible.Goals as goal

pub returns : goal.returns
returns c = λ plan inputs slots scene window r node closed some rank gates. open-possible scene window r some closed gates
    (system_of plan inputs slots) node.nic (rank-state plan inputs slots scene r node rank)
