use Rattle.job_laws.proofs.steps.Remote.{remote_is}
use Rattle.job_laws.proofs.steps.acknowledgements_are_asked.Goals as goal

pub returns : goal.returns
returns c = λ o. remote_is o
