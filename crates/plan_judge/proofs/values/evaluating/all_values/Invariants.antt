use Rattle.std.proofs.Common.{◌≡◌, length}
use Rattle.plan_core.specs.Values.{values}
use Rattle.plan_judge.proofs.values.evaluating.all_values.Given as goal

abbrev pub invariant-loop-c : goal.invariant-loop-c
invariant-loop-c l = record {
  so_far : l.cells.items ≡ values l.plan l.inputs l.c;
  many : length l.cells.items ≡ l.c;
}
