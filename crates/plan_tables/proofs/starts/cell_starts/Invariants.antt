use Rattle.std.proofs.Common.{◌≡◌, map, sum_by}
use Rattle.plan_core.specs.Plan.{from_to}
use Rattle.plan_core.specs.Places.{cell_length}
use Rattle.plan_tables.specs.Rising.{of_key}
use Rattle.plan_core.specs.calls.Calls.{cell_start}
use Rattle.plan_tables.specs.Tables.{all_ranks, rank_of}
use Rattle.plan_tables.proofs.starts.cell_starts.Given as goal

abbrev pub invariant-loop-c : goal.invariant-loop-c
invariant-loop-c l = record {
  starts : l.starts.items ≡ map (cell_start l.plan) (from_to 0 l.c);
  lengths : l.lengths ≡ map (λ r. sum_by (cell_length l.plan) (of_key (rank_of l.plan) l.c r)) (all_ranks l.plan);
}
