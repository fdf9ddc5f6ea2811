-- Up to a place the sum is told.
use Rattle.std.proofs.Common.{◌≡◌, ◌<◌, ◌≤◌, ℕ, true, nat_le, map, length, Some}
use Rattle.ptl_types.specs.Handles.{same_handle}
use Rattle.triggered_ops.specs.declared.spots.Wait.{Wait}
use Rattle.triggered_ops.specs.Operations.{told_if, waits_on}
use Rattle.triggered_ops.specs.Layout.{operations_in, wait_at}
use Rattle.triggered_ops.specs.Hung.{IsHung, IsSame}
use Rattle.triggered_ops.proofs.told.tell_strays.Given as goal

abbrev pub invariant-loop-place : goal.invariant-loop-place
invariant-loop-place g l = record {
  hung : IsHung (wait_at l.spots.spots) l.threads l.stamps;
  same : IsSame l.fn.spots l.spots;
  told : map (told_if (waits_on l.ct) l.sum) (operations_in l.spots.spots) ≡ map (told_if (waits_on l.ct) l.sum)
      (operations_in l.fn.spots.spots);
  due : (p : ℕ) (x : Wait) → p < l.place → wait_at l.spots.spots p ≡ Some x → same_handle x.ct l.ct ≡ true →
      x.due ≡ nat_le x.threshold l.sum;
  long : length l.spots.spots ≤ l.place-end;
}
