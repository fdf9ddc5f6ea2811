use Rattle.std.proofs.Common.{◌≡◌}
use Rattle.turn_table.specs.Hands.{IsFree}
use Rattle.fabric_cases.proofs.wires.turns.work.Given as goal

abbrev pub invariant-loop : goal.invariant-loop
invariant-loop g l = IsFree l.turns l.hand × (l.hand.knows.parts ≡ l.fn.hand.knows.parts)
