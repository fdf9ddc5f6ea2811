use Rattle.std.proofs.Common.{◌≡◌, length}
use Rattle.mark_judge.specs.Tables.{AreEntered}
use Rattle.mark_judge.proofs.roots.entered_cells.Given as goal

abbrev pub invariant-loop-k : goal.invariant-loop-k
invariant-loop-k l = record {
  many : length l.entered.items ≡ l.cells;
  told : AreEntered l.entries l.k l.cells l.entered.items;
}
