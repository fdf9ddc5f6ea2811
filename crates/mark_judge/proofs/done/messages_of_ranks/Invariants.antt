use Rattle.std.proofs.Common.{◌≡◌, count_by, map}
use Rattle.plan_core.specs.calls.RankOps.{is_message}
use Rattle.plan_tables.specs.Rising.{of_key}
use Rattle.plan_tables.specs.Tables.{all_ranks, from_rank}
use Rattle.mark_judge.proofs.done.messages_of_ranks.Given as goal

abbrev pub invariant-loop-l : goal.invariant-loop-l
invariant-loop-l l = l.sent ≡ map (λ r. count_by (is_message l.plan) (of_key (from_rank l.plan) l.l r)) (all_ranks l.plan)
