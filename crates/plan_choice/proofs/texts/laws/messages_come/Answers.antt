-- By `Ends` and `Traffic`.
use Rattle.plan_choice.proofs.texts.laws.Ends.{lane_few}
use Rattle.plan_choice.proofs.texts.laws.Traffic.{comes, firing_makes, receipt_makes}
use Rattle.plan_choice.proofs.texts.laws.Resting.{agrees_reached}
use Rattle.plan_choice.proofs.texts.laws.messages_come.Goals as goal

pub returns-clause-at_most : goal.returns-clause-at_most
returns-clause-at_most c = λ ranks ks slots w held s d lane in_range reached i j. lane_few ranks ks slots in_range w held
    (agrees_reached ranks ks slots in_range w held reached) s d lane i j

pub returns-clause-first : goal.returns-clause-first
returns-clause-first c = λ ranks ks slots w held s d lane m rest in_range reached i j e. comes ranks ks slots in_range w held
    (agrees_reached ranks ks slots in_range w held reached) s d lane m rest i j e

pub returns-clause-receipt : goal.returns-clause-receipt
returns-clause-receipt c = λ ranks ks slots w held s d lane m made rest in_range reached i j e f. (receipt_makes ranks ks slots in_range w
    held (agrees_reached ranks ks slots in_range w held reached) s d lane m made rest i j e f).0

pub returns-clause-back : goal.returns-clause-back
returns-clause-back c = λ ranks ks slots w held s d lane m made rest in_range reached i j e f. (receipt_makes ranks ks slots in_range w
    held (agrees_reached ranks ks slots in_range w held reached) s d lane m made rest i j e f).1

pub returns-clause-firing : goal.returns-clause-firing
returns-clause-firing c = λ ranks ks slots w held r t made in_range reached ready e. firing_makes ranks ks slots in_range w held
    (agrees_reached ranks ks slots in_range w held reached) r t made ready e
