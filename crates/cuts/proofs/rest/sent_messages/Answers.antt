-- By `Fair`.
use Rattle.op_laws.proofs.OpLaws.{op_laws}
use Rattle.op_laws.proofs.Starts.{combined-starts}
use Rattle.op_laws.proofs.Swaps.{combined-swaps}
use Rattle.cuts.proofs.rest.Fair.{fair}
use Rattle.cuts.proofs.rest.sent_messages.Goals as goal

pub returns-clause-source : goal.returns-clause-source
returns-clause-source c = λ plan inputs slots world sound fit cut s d lane m hs hd i.
    (fair combined-starts plan inputs sound fit (combined-swaps op_laws) slots world cut s d lane m hs hd i).source

pub returns-clause-target : goal.returns-clause-target
returns-clause-target c = λ plan inputs slots world sound fit cut s d lane m hs hd i.
    (fair combined-starts plan inputs sound fit (combined-swaps op_laws) slots world cut s d lane m hs hd i).target

pub returns-clause-kind : goal.returns-clause-kind
returns-clause-kind c = λ plan inputs slots world sound fit cut s d lane m hs hd i.
    (fair combined-starts plan inputs sound fit (combined-swaps op_laws) slots world cut s d lane m hs hd i).kind

pub returns-clause-kept : goal.returns-clause-kept
returns-clause-kept c = λ plan inputs slots world sound fit cut s d lane m hs hd i.
    (fair combined-starts plan inputs sound fit (combined-swaps op_laws) slots world cut s d lane m hs hd i).kept

pub returns-clause-clean : goal.returns-clause-clean
returns-clause-clean c = λ plan inputs slots world sound fit cut s d lane m hs hd i.
    (fair combined-starts plan inputs sound fit (combined-swaps op_laws) slots world cut s d lane m hs hd i).clean
