use Rattle.std.proofs.Common.{◌≡◌, take, count_by}
use Rattle.plan_core.specs.calls.RankOps.{is_message}
use Rattle.plan_tables.proofs.ranks.count_messages.Given as goal

abbrev pub invariant-loop-l : goal.invariant-loop-l
invariant-loop-l l = l.count ≡ count_by (is_message l.plan) (take l.l-index l.links)
