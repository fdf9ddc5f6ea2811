use Rattle.std.proofs.Common.{ℕ, ◌<◌, ◌≡◌, length}
use Rattle.plan_choice.specs.ranks.Seats.{IsInstalled}
use Rattle.plan_choice.specs.Acts.{seat_at}
use Rattle.plan_choice.proofs.laying.seat_all.Given as goal

abbrev pub invariant-loop-r : goal.invariant-loop-r
invariant-loop-r l = record {
  size : length l.seats.items ≡ l.r;
  seats : (k : ℕ) → k < l.r → IsInstalled l.ranks l.kinds k (seat_at l.seats.items k);
}
