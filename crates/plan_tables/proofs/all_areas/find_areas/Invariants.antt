use Rattle.std.proofs.Common.{◌≡◌, ◌*◌, length, map}
use Rattle.plan_core.specs.Plan.{from_to}
use Rattle.plan_tables.specs.Rising.{of_key}
use Rattle.plan_tables.specs.AreaTables.{message_key}
use Rattle.plan_tables.specs.Tables.{link_length}
use Rattle.plan_tables.proofs.Sums.{sums}
use Rattle.plan_tables.proofs.all_areas.find_areas.Given as goal

abbrev pub invariant-loop-l : goal.invariant-loop-l
invariant-loop-l l = record {
  counts : l.counts ≡ map (λ i. length (of_key (message_key l.plan) l.l i)) (from_to 0 (l.plan.ranks * 81));
  bytes : l.bytes ≡ sums (message_key l.plan) (link_length l.plan) l.l (l.plan.ranks * 81);
}
