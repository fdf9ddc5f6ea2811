use Rattle.job_laws.proofs.Cuts.{meant_at_rank, meant_by_values}
use Rattle.job_laws.proofs.values_are_meant.Goals as goal

pub returns : goal.returns
returns c = record {
  all = λ o inputs memory formed given values. meant_by_values o inputs memory formed given values;
  at_rank = λ o inputs r memory formed given h values. meant_at_rank o inputs r memory formed given h values;
}
