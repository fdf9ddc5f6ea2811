-- As many of those that wait are passed as the position has lost.
use Rattle.triggered_ops.proofs.Passing.{IsPassed}
use Rattle.triggered_ops.proofs.spots.place_at.Given as goal

abbrev pub invariant-loop-place : goal.invariant-loop-place
invariant-loop-place g l = IsPassed l.spots.spots l.i l.place l.left
