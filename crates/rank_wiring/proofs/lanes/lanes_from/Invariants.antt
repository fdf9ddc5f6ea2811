use Rattle.std.proofs.Common.{◌≡◌}
use Rattle.rank_slots.specs.Lanes.{lanes_below}
use Rattle.rank_wiring.proofs.lanes.lanes_from.Given as goal

abbrev pub invariant-loop-d : goal.invariant-loop-d
invariant-loop-d l = l.lanes.items ≡ lanes_below l.schedule.plan l.s l.d
