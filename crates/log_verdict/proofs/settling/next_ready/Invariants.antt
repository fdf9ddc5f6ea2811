use Rattle.std.proofs.Common.{◌≡◌}
use Rattle.log_verdict.specs.Settling.{next_ready}
use Rattle.log_verdict.proofs.settling.next_ready.Given as goal

-- at none of those before an operation is ready
abbrev pub invariant-loop-rank : goal.invariant-loop-rank
invariant-loop-rank l = next_ready l.rank-iterator ≡ next_ready l.scene.seats
