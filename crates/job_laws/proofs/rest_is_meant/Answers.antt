use Rattle.job_laws.proofs.Cuts.{complete_at, meant_at_rest}
use Rattle.job_laws.proofs.rest_is_meant.Goals as goal

pub returns : goal.returns
returns c = record {
  complete = λ o inputs slots world formed accepted given cut rest r h. complete_at o inputs slots world formed accepted given cut rest r h;
  meant = λ o inputs slots world formed accepted given cut rest. meant_at_rest o inputs slots world formed accepted given cut rest;
}
