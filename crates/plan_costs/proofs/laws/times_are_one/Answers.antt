-- By `Once`.
use Rattle.plan_costs.proofs.Once.{path_once, ranks_once, times_once}
use Rattle.plan_costs.proofs.laws.times_are_one.Goals as goal

pub returns : goal.returns
returns c = record {
  times = λ n p t u timed some one other. times_once n p t u timed some one other;
  ranks = λ p t k xs ys a b. ranks_once p t k xs ys a b;
  path = λ n p t a b x y. path_once n p t a b x y;
}
