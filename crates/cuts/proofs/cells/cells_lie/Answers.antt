use Rattle.std.proofs.Common.{refl}
use Rattle.plan_core.specs.Plan.{cell}
use Rattle.cuts.proofs.cells.Cells.{cell_lies}
use Rattle.cuts.proofs.cells.cells_lie.Goals as goal

pub returns : goal.returns
returns c = λ plan inputs slots world sound fit cut d h.
    cell_lies plan inputs sound fit slots world cut (cell plan d).rank d (sound.ranks_known d h) h refl
