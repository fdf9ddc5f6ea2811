use Rattle.std.proofs.Common.{◌≡◌, ◌<◌, ◌≤◌, ◌⊎◌, ℕ}
use Rattle.std.specs.Prelude.{IsFalse}
use Rattle.turn_table.specs.Hands.{IsFree}
use Rattle.rank_threads.specs.Turns.{FoundIdle, MadeNone}
use Rattle.rank_threads.proofs.fabric.Fabric.sweep_part.Given as goal

-- the ranks before this one were found idle, and what was known of others still is
abbrev pub invariant-loop-rank : goal.invariant-loop-rank
invariant-loop-rank g l = record {
  hand : IsFree l.self.turns l.hand;
  parts : l.hand.knows.parts ≡ l.initial.hand.knows.parts;
  idle : (r : ℕ) → l.first ≤ r → r < l.rank → FoundIdle l.self.job l.hand.knows r;
  others : (r : ℕ) → (r < l.first ⊎ l.end ≤ r) → FoundIdle l.self.job l.initial.hand.knows r → FoundIdle l.self.job l.hand.knows r;
  none : IsFalse l.worked → MadeNone l.initial.hand.knows l.hand.knows;
}
