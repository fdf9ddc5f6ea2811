use Rattle.std.proofs.Common.{◌≡◌, ◌*◌, length, map}
use Rattle.plan_core.specs.Plan.{from_to}
use Rattle.plan_tables.specs.Rising.{of_key}
use Rattle.plan_tables.specs.Tables.{lane_key, link_length}
use Rattle.plan_tables.proofs.Sums.{sums}
use Rattle.plan_tables.proofs.lanes.find_lanes.Given as goal

abbrev pub invariant-loop-l : goal.invariant-loop-l
invariant-loop-l l = record {
  counts : l.counts ≡ map (λ i. length (of_key (lane_key l.plan) l.l i)) (from_to 0 (l.plan.ranks * l.plan.ranks));
  bytes : l.bytes ≡ sums (lane_key l.plan) (link_length l.plan) l.l (l.plan.ranks * l.plan.ranks);
}
