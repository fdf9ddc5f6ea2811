-- By `OneChosen`.
use Rattle.op_laws.proofs.OpLaws.{op_laws}
use Rattle.op_laws.proofs.Starts.{combined-starts}
use Rattle.op_laws.proofs.Swaps.{combined-swaps}
use Rattle.cuts.proofs.orders.OneChosen.{one_chosen}
use Rattle.cuts.proofs.orders.one_run_is_chosen.Goals as goal

pub returns : goal.returns
returns c = λ plan inputs slots others words one other sound fit a b r h. one_chosen combined-starts plan inputs sound fit
    (combined-swaps op_laws) slots others words one other a b r h
