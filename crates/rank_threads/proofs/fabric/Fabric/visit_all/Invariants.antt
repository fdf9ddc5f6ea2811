use Rattle.std.proofs.Common.{◌≡◌}
use Rattle.turn_table.specs.Hands.{IsFree}
use Rattle.rank_threads.proofs.fabric.Fabric.visit_all.Given as goal

abbrev pub invariant-loop : goal.invariant-loop
invariant-loop g l = record {
  hand : IsFree l.self.turns l.hand;
  parts : l.hand.knows.parts ≡ l.initial.hand.knows.parts;
}
