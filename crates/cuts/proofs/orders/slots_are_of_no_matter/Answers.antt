-- By `Slotless`.
use Rattle.op_laws.proofs.OpLaws.{op_laws}
use Rattle.op_laws.proofs.Starts.{combined-starts}
use Rattle.op_laws.proofs.Swaps.{combined-swaps}
use Rattle.cuts.proofs.orders.Slotless.{slotless}
use Rattle.cuts.proofs.orders.slots_are_of_no_matter.Goals as goal

pub returns : goal.returns
returns c = λ plan inputs slots others lists verdict sound fit v. slotless combined-starts plan inputs sound fit (combined-swaps op_laws)
    slots others lists verdict v
