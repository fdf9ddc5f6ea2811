use Rattle.std.proofs.Common.{◌≡◌, ◌≢◌, ℕ}
use Rattle.turn_table.specs.Views.{busy_at, without_busy}
use Rattle.turn_table.specs.Hands.{IsFree}
use Rattle.turn_table.proofs.table.Turns.take.Given as goal

abbrev pub invariant-loop : goal.invariant-loop
invariant-loop g l = record {
  iterator : (goal.iterator-loop g).can_next l.iterator' × (goal.iterator-loop g).is_finite l.iterator';
  hand : IsFree l.self l.hand;
  alike : without_busy l.hand.knows ≡ without_busy l.fn.hand.knows;
  elsewhere : (j : ℕ) → j ≢ l.slot → busy_at l.hand.knows j ≡ busy_at l.fn.hand.knows j;
}
