-- By `Traffic`.
use Rattle.plan_choice.proofs.texts.laws.Traffic.{no_drops, no_violations}
use Rattle.plan_choice.proofs.texts.laws.Resting.{agrees_reached}
use Rattle.plan_choice.proofs.texts.laws.nothing_is_lost.Goals as goal

pub returns-clause-drops : goal.returns-clause-drops
returns-clause-drops c = λ ranks ks slots w held r in_range reached. no_drops ranks ks slots in_range w held
    (agrees_reached ranks ks slots in_range w held reached) r

pub returns-clause-violations : goal.returns-clause-violations
returns-clause-violations c = λ ranks ks slots w held r in_range reached. no_violations ranks ks slots in_range w held
    (agrees_reached ranks ks slots in_range w held reached) r
