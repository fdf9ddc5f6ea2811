use Rattle.std.proofs.Common.{◌≡◌, [], length, map, take}
use Rattle.rank_slots.specs.Joints.{out_joint}
use Rattle.rank_slots.specs.Lanes.{lanes_before, lanes_from}
use Rattle.rank_wiring.specs.Opening.{AreLines, IsFresh, wires_in}
use Rattle.rank_wiring.specs.Wiring.{bounds_of, joints_from}
use Rattle.rank_wiring.proofs.open.lay_fan.Given as goal

abbrev pub invariant-loop-k : goal.invariant-loop-k
invariant-loop-k l = record {
  count : length l.lines.items ≡ l.k;
  fresh : IsFresh l.job l.rank l.slot;
  ins : l.slot.ins.items ≡ [];
  outs : map out_joint l.slot.outs.items ≡ joints_from (length (lanes_before l.job.schedule.plan l.rank)) (wires_in l.lines.items);
  lines : AreLines (length (lanes_before l.job.schedule.plan l.rank)) l.lines.items;
  bounds_are : bounds_of (wires_in l.lines.items) ≡ take l.k (lanes_from l.job.schedule.plan l.rank);
}
