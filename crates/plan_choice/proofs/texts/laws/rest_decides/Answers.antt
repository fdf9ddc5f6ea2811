-- By `Resting`.
use Rattle.plan_choice.proofs.texts.laws.Resting.{agrees_reached, rest_decided}
use Rattle.plan_choice.proofs.texts.laws.rest_decides.Goals as goal

pub returns : goal.returns
returns c = λ ranks ks slots w held in_range reached still. rest_decided ranks ks slots in_range w held
    (agrees_reached ranks ks slots in_range w held reached) still
