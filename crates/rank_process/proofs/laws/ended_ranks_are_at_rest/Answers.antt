use Rattle.rank_process.proofs.laws.Together.{cut, rest, values}
use Rattle.rank_process.proofs.laws.ended_ranks_are_at_rest.Goals as goal

pub returns : goal.returns
returns c = record {
  cut = λ p inputs slots world ended carried. cut p inputs slots world ended carried;
  rest = λ p inputs slots world sound fit ended carried. rest p inputs slots world ended carried sound fit;
  values = λ p inputs slots world sound fit ended carried. values p inputs slots world ended carried sound fit;
}
