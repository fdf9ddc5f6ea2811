-- What is left without those that wait on the counting event is what was, without them.
use Rattle.std.proofs.Common.{◌≡◌, not, filter, length}
use Rattle.triggered_ops.specs.Operations.{waits_on}
use Rattle.triggered_ops.specs.Layout.{operations_in, wait_at}
use Rattle.triggered_ops.specs.Hung.{IsHung, IsSame}
use Rattle.triggered_ops.proofs.parts.drop_all.Given as goal

abbrev pub invariant-loop-place : goal.invariant-loop-place
invariant-loop-place g l = record {
  hung : IsHung (wait_at l.spots.spots) l.threads l.stamps;
  places : l.threads.places ≡ l.fn.threads.places;
  same : IsSame l.fn.spots l.spots;
  rest : filter (λ p. not (waits_on l.ct p)) (operations_in l.spots.spots) ≡ filter (λ p. not (waits_on l.ct p))
      (operations_in l.fn.spots.spots);
}

abbrev pub decreases-loop-place : goal.decreases-loop-place
decreases-loop-place g l = length (operations_in l.spots.spots)
