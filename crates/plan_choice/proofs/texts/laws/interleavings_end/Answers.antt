-- By `Ends`.
use Rattle.plan_choice.proofs.texts.laws.Ends.{full_still, history_le, still_full}
use Rattle.plan_choice.proofs.texts.laws.Resting.{agrees_reached}
use Rattle.plan_choice.proofs.texts.laws.interleavings_end.Goals as goal

pub returns-clause-bounded : goal.returns-clause-bounded
returns-clause-bounded c = λ ranks ks slots w held r in_range reached i. history_le ranks ks slots in_range w held
    (agrees_reached ranks ks slots in_range w held reached) r i

pub returns-clause-still : goal.returns-clause-still
returns-clause-still c = λ ranks ks slots w held r in_range reached still i. still_full ranks ks slots in_range w held
    (agrees_reached ranks ks slots in_range w held reached) still r i

pub returns-clause-whole : goal.returns-clause-whole
returns-clause-whole c = λ ranks ks slots w held in_range reached full. full_still ranks ks slots in_range w held
    (agrees_reached ranks ks slots in_range w held reached) full
