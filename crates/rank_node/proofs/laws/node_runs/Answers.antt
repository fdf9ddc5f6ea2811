use Rattle.rank_node.proofs.Nodes.{agrees}
use Rattle.rank_node.proofs.Plans.{run-legal, run-state}
use Rattle.rank_node.proofs.laws.node_runs.Goals as goal

pub returns : goal.returns
returns c = record {
  state = λ plan inputs slots world r node for is k same. run-state plan inputs slots world r node for is k same;
  legal = λ plan inputs slots r node for is k. run-legal plan inputs slots r node for is k;
  slots = λ node is. agrees node.kept is.descriptors;
}
