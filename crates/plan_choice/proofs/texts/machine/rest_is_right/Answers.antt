-- By `Moments`.
use Rattle.plan_choice.proofs.texts.machine.Moments.{rest_right, rest_told}
use Rattle.plan_choice.proofs.texts.machine.rest_is_right.Goals as goal

pub returns-clause-complete : goal.returns-clause-complete
returns-clause-complete c = λ ranks ks m r s h k i j. rest_told ranks ks m h k r s i j

pub returns-clause-right : goal.returns-clause-right
returns-clause-right c = λ ranks ks m s some h k j. rest_right ranks ks m some h k s j
