use Rattle.std.proofs.Common.{◌≡◌, length, map}
use Rattle.plan_tables.specs.Rising.{of_key}
use Rattle.plan_tables.specs.Tables.{all_ranks, rank_of}
use Rattle.mark_judge.proofs.done.cells_of_ranks.Given as goal

abbrev pub invariant-loop-c : goal.invariant-loop-c
invariant-loop-c l = l.cells ≡ map (λ r. length (of_key (rank_of l.plan) l.c r)) (all_ranks l.plan)
