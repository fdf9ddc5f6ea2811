-- None of those up to a place waits on it.
use Rattle.std.proofs.Common.{length, ◌*◌}
use Rattle.chain_list.specs.threads.Threads.{thread}
use Rattle.triggered_ops.specs.Hung.{rest_after, WaitsOn}
use Rattle.triggered_ops.specs.Layout.{wait_at}
use Rattle.triggered_ops.proofs.Hanging.{IsWalk}
use Rattle.triggered_ops.proofs.parts.stray_on.Given as goal

abbrev pub invariant-loop-place : goal.invariant-loop-place
invariant-loop-place g l = IsWalk (λ q. WaitsOn l.ct (wait_at l.spots.spots q) → ⊥) l.after (thread (2 * length l.stamps) l.threads)

abbrev pub decreases-loop-place : goal.decreases-loop-place
decreases-loop-place g l = length (rest_after l.after (thread (2 * length l.stamps) l.threads))
