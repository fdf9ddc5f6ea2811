use Rattle.std.proofs.Common.{◌≡◌, ◌≤◌, sum_by}
use Rattle.plan_core.specs.Plan.{from_to}
use Rattle.plan_costs.specs.Path.{bytes_by, messages_by}
use Rattle.plan_costs.proofs.traffic.traffic_of.Given as goal

abbrev pub invariant-loop-l : goal.invariant-loop-l
invariant-loop-l l =
    (l.messages ≡ sum_by (messages_by l.plan) (from_to 0 l.l)) × (l.bytes ≡ sum_by (bytes_by l.plan) (from_to 0 l.l)) × (l.messages ≤ l.l)
