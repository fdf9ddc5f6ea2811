-- By `Next`.
use Rattle.op_laws.proofs.OpLaws.{op_laws}
use Rattle.op_laws.proofs.Starts.{combined-starts}
use Rattle.op_laws.proofs.Swaps.{combined-swaps}
use Rattle.cuts.proofs.rest.Next.{next_held, next_own}
use Rattle.cuts.proofs.rest.next_message.Goals as goal

pub returns-clause-of_a_cut : goal.returns-clause-of_a_cut
returns-clause-of_a_cut c = λ plan inputs slots world sound fit cut r s lane m later begun hr hs e. next_own combined-starts plan inputs
    sound fit (combined-swaps op_laws) slots world cut begun r s lane m later hr hs e

pub returns-clause-of_a_moment : goal.returns-clause-of_a_moment
returns-clause-of_a_moment c = λ plan inputs slots world held sound fit moment r s lane m later begun hr hs e. next_held combined-starts
    plan inputs sound fit (combined-swaps op_laws) slots world held moment begun r s lane m later hr hs e
