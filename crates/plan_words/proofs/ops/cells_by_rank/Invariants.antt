use Rattle.std.proofs.Common.{◌≡◌, map}
use Rattle.plan_tables.specs.Rising.{of_key}
use Rattle.plan_tables.specs.Tables.{all_ranks, rank_of}
use Rattle.plan_words.proofs.ops.cells_by_rank.Given as goal

abbrev pub invariant-loop-c : goal.invariant-loop-c
invariant-loop-c l = l.own ≡ map (of_key (rank_of l.plan) l.c) (all_ranks l.plan)
