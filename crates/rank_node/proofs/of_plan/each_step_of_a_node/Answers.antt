use Rattle.std.proofs.Common.{false, IsTrue}
use Rattle.rank_node.proofs.of_plan.Stepping.{fired-rank, other-rank, received-rank, started-rank}
use Rattle.rank_node.proofs.of_plan.each_step_of_a_node.Goals as goal

no_truth : IsTrue false → ⊥
no_truth h = cc

pub returns : goal.returns
returns c = record {
  fired = λ plan inputs slots scene r t node is keeps. fired-rank plan inputs slots scene r t node is keeps;
  received = λ plan inputs slots scene r s lane m later node front is keeps. received-rank plan inputs slots scene r s lane m later node
      front is keeps;
  started = λ plan inputs slots scene r old new is st keeps agrees. started-rank plan inputs slots scene r old new is st keeps agrees;
  others = λ plan inputs slots scene q step node apart is. other-rank plan inputs slots scene q step node (λ e. no_truth (apart e)) is;
}
