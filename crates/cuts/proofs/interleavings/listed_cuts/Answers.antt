use Rattle.op_laws.proofs.OpLaws.{op_laws}
use Rattle.op_laws.proofs.Starts.{combined-starts}
use Rattle.op_laws.proofs.Swaps.{combined-swaps}
use Rattle.cuts.proofs.interleavings.Cuts.{one_choice, one_choice_clean}
use Rattle.cuts.proofs.interleavings.listed_cuts.Goals as goal

pub returns : goal.returns
returns c = record {
  messages = λ plan inputs slots one other sound fit a b clean pure same r h.
      one_choice_clean combined-starts plan inputs sound fit (combined-swaps op_laws) slots one other a b clean pure same r h;
  strays = λ plan inputs slots one other sound fit a b same strays r h.
      one_choice combined-starts plan inputs sound fit (combined-swaps op_laws) slots one other a b same strays r h;
}
