-- The theorem of `FromRest`.
use Rattle.op_laws.proofs.OpLaws.{op_laws}
use Rattle.op_laws.proofs.Starts.{combined-starts}
use Rattle.op_laws.proofs.Swaps.{combined-swaps}
use Rattle.cuts.proofs.rest.FromRest.{completes}
use Rattle.cuts.proofs.rest.rest_gives_completion.Goals as goal

pub returns : goal.returns
returns c = λ plan inputs slots world sound fit cut rest r h. completes combined-starts plan inputs sound fit (combined-swaps op_laws)
    slots world cut rest r h
