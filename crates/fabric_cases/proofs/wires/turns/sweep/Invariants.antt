use Rattle.std.proofs.Common.{◌≡◌}
use Rattle.turn_table.specs.Hands.{IsFree}
use Rattle.fabric_cases.proofs.wires.turns.sweep.Given as goal

abbrev pub invariant-loop-slot : goal.invariant-loop-slot
invariant-loop-slot g l = IsFree l.turns l.hand × (l.hand.knows.parts ≡ l.fn.hand.knows.parts)
