use Rattle.std.proofs.Common.{◌≡◌, length}
use Rattle.mark_judge.specs.Tables.{AreBound}
use Rattle.mark_judge.proofs.bound.bound_cells.Given as goal

abbrev pub invariant-loop-c : goal.invariant-loop-c
invariant-loop-c l = record {
  many : length l.bound.items ≡ l.c;
  told : AreBound l.plan l.c l.bound.items;
}
