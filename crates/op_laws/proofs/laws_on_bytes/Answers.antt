-- By `Swaps` and `Starts`.
use Rattle.op_laws.proofs.OpLaws.{op_laws}
use Rattle.op_laws.proofs.Swaps.{combined-swaps}
use Rattle.op_laws.proofs.Starts.{combined-starts}
use Rattle.op_laws.proofs.laws_on_bytes.Goals as goal

pub returns-clause-swaps : goal.returns-clause-swaps
returns-clause-swaps c = λ o ty x a b. combined-swaps op_laws o ty x a b

pub returns-clause-starts : goal.returns-clause-starts
returns-clause-starts c = λ o ty x d e. combined-starts o ty x d e
