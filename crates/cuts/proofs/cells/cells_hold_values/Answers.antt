use Rattle.cuts.proofs.cells.Cells.{complete_values, done_values, rest_values}
use Rattle.cuts.proofs.cells.cells_hold_values.Goals as goal

pub returns : goal.returns
returns c = record {
  rest = λ plan inputs slots world sound fit cut rest. rest_values plan inputs sound fit slots world cut rest;
  complete = λ plan inputs slots world r done. complete_values plan inputs slots world r done;
  done = λ plan inputs slots world sound fit cut r h done. done_values plan inputs sound fit slots world cut r h done;
}
