use Rattle.std.proofs.Common.{◌≡◌, ◌≢◌, ℕ}
use Rattle.std.specs.Prelude.{IsFalse}
use Rattle.turn_table.specs.Hands.{IsFree}
use Rattle.rank_threads.specs.Turns.{FoundIdle, MadeNone}
use Rattle.rank_threads.proofs.fabric.Fabric.work.Given as goal

abbrev pub invariant-loop : goal.invariant-loop
invariant-loop g l = record {
  hand : IsFree l.self.turns l.hand;
  parts : l.hand.knows.parts ≡ l.initial.hand.knows.parts;
  others : (r : ℕ) → r ≢ l.rank → FoundIdle l.self.job l.initial.hand.knows r → FoundIdle l.self.job l.hand.knows r;
  none : IsFalse l.worked → MadeNone l.initial.hand.knows l.hand.knows;
}
