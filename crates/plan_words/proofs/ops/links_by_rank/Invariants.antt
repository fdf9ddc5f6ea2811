use Rattle.std.proofs.Common.{◌≡◌, map}
use Rattle.plan_tables.specs.Rising.{of_key}
use Rattle.plan_tables.specs.Tables.{all_ranks, from_rank}
use Rattle.plan_words.proofs.ops.links_by_rank.Given as goal

abbrev pub invariant-loop-l : goal.invariant-loop-l
invariant-loop-l l = l.out ≡ map (of_key (from_rank l.plan) l.l) (all_ranks l.plan)
