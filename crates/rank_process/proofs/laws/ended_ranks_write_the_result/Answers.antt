use Rattle.rank_process.proofs.laws.Together.{lines, meant}
use Rattle.rank_process.proofs.laws.ended_ranks_write_the_result.Goals as goal

pub returns : goal.returns
returns c = record {
  meant = λ text d slots world described ended carried. meant text d slots world described ended carried;
  lines = λ text d slots world described ended carried. lines text d slots world described ended carried;
}
