use Rattle.std.proofs.Common.{◌≡◌, map}
use Rattle.plan_tables.specs.Rising.{of_key}
use Rattle.plan_tables.specs.Tables.{all_ranks, arrival_key}
use Rattle.plan_tables.proofs.owners.messages_by_rank.Given as goal

abbrev pub invariant-loop-l : goal.invariant-loop-l
invariant-loop-l l = l.into ≡ map (of_key (arrival_key l.plan) l.l) (all_ranks l.plan)
