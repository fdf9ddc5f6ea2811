use Rattle.op_laws.proofs.OpLaws.{op_laws}
use Rattle.op_laws.proofs.Starts.{combined-starts}
use Rattle.op_laws.proofs.Swaps.{combined-swaps}
use Rattle.cuts.proofs.orders.Steps.{holds_complete}
use Rattle.cuts.proofs.orders.what_holds_is_at_rest.Goals as goal

pub returns : goal.returns
returns c = λ plan inputs slots lists sound fit v. holds_complete combined-starts plan inputs slots lists sound fit
    (combined-swaps op_laws) v
