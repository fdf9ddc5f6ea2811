-- As while raising; and those that wait are above the sum.
use Rattle.std.proofs.Common.{◌≡◌, ℕ, ◌*◌, ◌<◌, ◌≤◌, true, false, Some, map, length}
use Rattle.ptl_types.specs.Handles.{same_handle}
use Rattle.chain_list.specs.threads.Threads.{thread}
use Rattle.triggered_ops.specs.declared.spots.Wait.{Wait}
use Rattle.triggered_ops.specs.Operations.{told_if, waits_on}
use Rattle.triggered_ops.specs.Layout.{operations_in, wait_at}
use Rattle.triggered_ops.specs.Hung.{IsHung, IsSame}
use Rattle.triggered_ops.proofs.told.lower.Given as goal

abbrev pub invariant-loop-place : goal.invariant-loop-place
invariant-loop-place g l = record {
  hung : IsHung (wait_at l.spots.spots) l.threads l.stamps;
  places : l.threads.places ≡ l.fn.threads.places;
  same : IsSame l.fn.spots l.spots;
  told : map (told_if (waits_on l.ct) l.sum) (operations_in l.spots.spots) ≡ map (told_if (waits_on l.ct) l.sum)
      (operations_in l.fn.spots.spots);
  within : length l.spots.spots ≤ l.threads.places;
  above : (p : ℕ) (x : Wait) → wait_at l.spots.spots p ≡ Some x → same_handle x.ct l.ct ≡ true → x.due ≡ false → l.sum < x.threshold;
}

abbrev pub decreases-loop-place : goal.decreases-loop-place
decreases-loop-place g l = length (thread (2 * l.ct.slot) l.threads)
