use Rattle.std.proofs.Common.{◌≡◌}
use Rattle.turn_table.specs.Hands.{IsFree}
use Rattle.rank_threads.proofs.fabric.Fabric.round.Given as goal

abbrev pub invariant-loop-rank : goal.invariant-loop-rank
invariant-loop-rank g l = record {
  hand : IsFree l.self.turns l.hand;
  parts : l.hand.knows.parts ≡ l.initial.hand.knows.parts;
}
