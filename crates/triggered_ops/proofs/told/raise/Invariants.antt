-- Telling the sum to what there is now comes to what telling it at first would have.
use Rattle.std.proofs.Common.{◌≡◌, ◌+◌, ◌*◌, ◌≤◌, map, length}
use Rattle.chain_list.specs.threads.Threads.{thread}
use Rattle.triggered_ops.specs.Operations.{told_if, waits_on}
use Rattle.triggered_ops.specs.Layout.{operations_in, wait_at}
use Rattle.triggered_ops.specs.Hung.{IsHung, IsSame}
use Rattle.triggered_ops.proofs.told.raise.Given as goal

abbrev pub invariant-loop-place : goal.invariant-loop-place
invariant-loop-place g l = record {
  hung : IsHung (wait_at l.spots.spots) l.threads l.stamps;
  places : l.threads.places ≡ l.fn.threads.places;
  same : IsSame l.fn.spots l.spots;
  told : map (told_if (waits_on l.ct) l.sum) (operations_in l.spots.spots) ≡ map (told_if (waits_on l.ct) l.sum)
      (operations_in l.fn.spots.spots);
  within : length l.spots.spots ≤ l.threads.places;
}

abbrev pub decreases-loop-place : goal.decreases-loop-place
decreases-loop-place g l = length (thread (2 * l.ct.slot + 1) l.threads)
