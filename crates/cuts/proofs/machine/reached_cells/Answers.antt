-- By `Central` and `Ancestors`.
use Rattle.op_laws.proofs.OpLaws.{op_laws}
use Rattle.op_laws.proofs.Swaps.{combined-swaps}
use Rattle.plan_core.specs.Plan.{cell}
use Rattle.cuts.proofs.machine.Ancestors.{ancestors_reached}
use Rattle.cuts.proofs.machine.Central.{cut_holds}
use Rattle.cuts.proofs.machine.reached_cells.Goals as goal

pub returns-clause-value : goal.returns-clause-value
returns-clause-value c = λ plan inputs moves sound fit cut d h n. cut_holds (combined-swaps op_laws) plan inputs sound fit moves cut
    (cell plan d).rank d (sound.ranks_known d h) h n

pub returns-clause-ancestors : goal.returns-clause-ancestors
returns-clause-ancestors c = λ plan inputs moves sound cut b d h path n. ancestors_reached plan inputs sound moves cut b d h path n
