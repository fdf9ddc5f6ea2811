use Rattle.plan_slices.specs.Checked.{AreCutCells}
use Rattle.plan_slices.proofs.checking.are_cut_cells.Given as goal

abbrev pub invariant-loop-c : goal.invariant-loop-c
invariant-loop-c l = AreCutCells l.plan l.cuts l.c
