use Rattle.cuts.proofs.cells.Cells.{in_order, rounds_kept}
use Rattle.cuts.proofs.cells.cells_in_order.Goals as goal

pub returns : goal.returns
returns c = record {
  order = λ plan inputs slots world sound fit cut. in_order plan inputs sound fit slots world cut;
  rounds = λ plan inputs slots world order. rounds_kept plan inputs slots world order;
}
