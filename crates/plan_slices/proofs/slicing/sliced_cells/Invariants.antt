use Rattle.std.proofs.Common.{◌≡◌, map}
use Rattle.number_lists.specs.Numbers.{from_to}
use Rattle.plan_core.specs.Plan.{cell}
use Rattle.plan_slices.specs.Slices.{cut_at, sliced_cell}
use Rattle.plan_slices.proofs.slicing.sliced_cells.Given as goal

abbrev pub invariant-loop-c : goal.invariant-loop-c
invariant-loop-c l = l.cells.items ≡ map (λ c. sliced_cell (cut_at l.cuts c) (cell l.plan c)) (from_to 0 l.c)
