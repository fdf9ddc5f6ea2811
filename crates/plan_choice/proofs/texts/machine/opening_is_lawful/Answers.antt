-- By `Moments`.
use Rattle.plan_choice.proofs.texts.machine.Moments.{opened_lawful}
use Rattle.plan_choice.proofs.texts.machine.opening_is_lawful.Goals as goal

pub returns : goal.returns
returns c = λ ranks ks. opened_lawful ranks ks
