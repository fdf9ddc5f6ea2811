use Rattle.std.proofs.Common.{◌≡◌, ◌==◌, ◌≤◌, filter, length}
use Rattle.plan_core.specs.Plan.{cell, from_to}
use Rattle.plan_top.proofs.notes.counts.cells_on.Given as goal

abbrev pub invariant-loop-c : goal.invariant-loop-c
invariant-loop-c l = (l.count ≡ length (filter (λ k. (cell l.plan k).rank == l.r) (from_to 0 l.c))) × (l.count ≤ l.c)
