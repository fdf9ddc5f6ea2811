-- By `Traffic`.
use Rattle.plan_choice.proofs.texts.laws.Traffic.{words_within}
use Rattle.plan_choice.proofs.texts.laws.Resting.{agrees_reached}
use Rattle.plan_choice.proofs.texts.laws.words_are_within.Goals as goal

pub returns : goal.returns
returns c = λ ranks ks slots w held r s in_range reached h. words_within ranks ks slots in_range w held
    (agrees_reached ranks ks slots in_range w held reached) r s h
