-- The theorems of `Laws`.
use Rattle.op_laws.proofs.OpLaws.{op_laws}
use Rattle.op_laws.proofs.Starts.{combined-starts}
use Rattle.op_laws.proofs.Swaps.{combined-swaps}
use Rattle.cuts.proofs.rest.Laws.{reached_holds, ancestor_reached}
use Rattle.cuts.proofs.rest.reached_cells.Goals as goal

pub returns-clause-value : goal.returns-clause-value
returns-clause-value c = λ plan inputs slots world sound fit cut d h k. reached_holds combined-starts plan inputs sound fit slots world
    cut (combined-swaps op_laws) d h k

pub returns-clause-ancestors : goal.returns-clause-ancestors
returns-clause-ancestors c = λ plan inputs slots world sound fit cut b d i h path k. ancestor_reached combined-starts plan inputs sound
    fit slots world cut b d i h path k
