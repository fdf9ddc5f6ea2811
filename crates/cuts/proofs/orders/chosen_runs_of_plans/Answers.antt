-- By `Rising`, `Distinct` and `Ends`.
use Rattle.op_laws.proofs.OpLaws.{op_laws}
use Rattle.op_laws.proofs.Starts.{combined-starts}
use Rattle.op_laws.proofs.Swaps.{combined-swaps}
use Rattle.cuts.specs.histories.Plans.{system_of}
use Rattle.cuts.proofs.orders.Distinct.{once_each}
use Rattle.cuts.proofs.orders.Ends.{chosen_ends}
use Rattle.cuts.proofs.orders.Rising.{ready_rise}
use Rattle.cuts.proofs.orders.chosen_runs_of_plans.Goals as goal

pub returns-clause-rise : goal.returns-clause-rise
returns-clause-rise c = λ plan inputs slots world sound fit cut r h. ready_rise combined-starts plan inputs sound fit slots world cut r h

pub returns-clause-once : goal.returns-clause-once
returns-clause-once c = λ plan inputs slots scene sound fit cut. once_each (system_of plan inputs slots) scene
    (λ r h. ready_rise combined-starts plan inputs sound fit slots scene.world cut r h)

pub returns-clause-ends : goal.returns-clause-ends
returns-clause-ends c = λ plan inputs slots words sound fit. chosen_ends combined-starts plan inputs sound fit (combined-swaps op_laws)
    slots words
