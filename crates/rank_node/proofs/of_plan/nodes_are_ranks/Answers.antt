use Rattle.rank_node.proofs.of_plan.Receiving.{rank-state}
use Rattle.rank_node.proofs.of_plan.nodes_are_ranks.Goals as goal

pub returns : goal.returns
returns c = λ plan inputs slots scene r node rank. rank-state plan inputs slots scene r node rank
