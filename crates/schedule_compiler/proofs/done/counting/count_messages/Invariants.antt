use Rattle.std.proofs.Common.{◌≡◌, length, map}
use Rattle.plan_tables.specs.Rising.{of_key}
use Rattle.plan_tables.specs.Tables.{all_ranks}
use Rattle.schedule_compiler.specs.done.Counts.{sent_key}
use Rattle.schedule_compiler.proofs.done.counting.count_messages.Given as goal

abbrev pub invariant-loop-l : goal.invariant-loop-l
invariant-loop-l l = l.counts ≡ map (λ r. length (of_key (sent_key l.plan) l.l r)) (all_ranks l.plan)
