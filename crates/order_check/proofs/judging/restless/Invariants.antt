use Rattle.std.proofs.Common.{ℕ, ◌<◌}
use Rattle.order_check.specs.Open.{IsQuiet}
use Rattle.order_check.proofs.judging.restless.Given as goal

abbrev pub invariant-loop-r : goal.invariant-loop-r
invariant-loop-r l = (q : ℕ) → q < l.r → IsQuiet l.world q
