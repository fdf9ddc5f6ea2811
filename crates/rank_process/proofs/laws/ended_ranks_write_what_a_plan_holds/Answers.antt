use Rattle.rank_process.proofs.laws.Together.{given-lines}
use Rattle.rank_process.proofs.laws.ended_ranks_write_what_a_plan_holds.Goals as goal

pub returns : goal.returns
returns c = λ text t slots world given ended carried. given-lines c.reads_exactly.ensures.exactly text t slots world given ended carried
