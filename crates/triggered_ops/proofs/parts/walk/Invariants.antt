-- Those up to a place are no higher.
use Rattle.std.proofs.Common.{◌≤◌, length}
use Rattle.chain_list.specs.threads.Threads.{thread}
use Rattle.triggered_ops.specs.Hung.{rest_after, threshold_of}
use Rattle.triggered_ops.specs.Layout.{wait_at}
use Rattle.triggered_ops.proofs.Hanging.{IsWalk}
use Rattle.triggered_ops.proofs.parts.walk.Given as goal

abbrev pub invariant-loop-place : goal.invariant-loop-place
invariant-loop-place g l = IsWalk (λ q. threshold_of (wait_at l.spots.spots q) ≤ l.threshold) l.after (thread l.thread l.threads)

abbrev pub decreases-loop-place : goal.decreases-loop-place
decreases-loop-place g l = length (rest_after l.after (thread l.thread l.threads))
