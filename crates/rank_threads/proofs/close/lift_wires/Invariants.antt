use Rattle.std.proofs.Common.{◌≡◌, ◌++◌, List, length}
use Rattle.pair_wires.specs.Wires.{WireState}
use Rattle.rank_wiring.specs.Opening.{AllLaid}
use Rattle.rank_slots.specs.Moves.{SameNode, Slotwise}
use Rattle.rank_threads.proofs.Lifts.{AreLifted}
use Rattle.rank_threads.proofs.close.lift_wires.Given as goal

-- the wires after these were drained
abbrev pub invariant-loop-wire : goal.invariant-loop-wire
invariant-loop-wire g l = record {
  front : (rest : List WireState) × (l.initial.wires ≡ l.wires ++ rest);
  count : length l.slots ≡ length l.initial.slots;
  nodes : Slotwise SameNode l.initial.slots l.slots;
  laid : AllLaid l.wires l.slots;
  schedule : l.frame.schedule ≡ l.initial.frame.schedule;
  inputs : l.frame.inputs ≡ l.initial.frame.inputs;
  lifted : AreLifted l.initial.frame.schedule.plan.ranks l.initial.wires l.initial.slots l.initial.frame.lanes
      (length l.wires) l.frame.lanes;
}

abbrev pub decreases-loop-wire : goal.decreases-loop-wire
decreases-loop-wire g l = length l.wires
