use Rattle.std.proofs.Common.{◌≡◌, length}
use Rattle.rank_wiring.specs.Fans.{AreFans}
use Rattle.rank_slots.specs.Lanes.{lanes_before}
use Rattle.rank_wiring.proofs.lanes.all_fans.Given as goal

abbrev pub invariant-loop-s : goal.invariant-loop-s
invariant-loop-s l = record {
  count : length l.fans.items ≡ l.s;
  first : l.first ≡ length (lanes_before l.schedule.plan l.s);
  fans : AreFans l.schedule.plan l.fans.items;
}
