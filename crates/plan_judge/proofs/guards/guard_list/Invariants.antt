use Rattle.std.proofs.Common.{◌≡◌}
use Rattle.plan_judge.specs.Guards.{guarded_below}
use Rattle.plan_judge.proofs.guards.guard_list.Given as goal

abbrev pub invariant-loop-c : goal.invariant-loop-c
invariant-loop-c l = l.guards.items ≡ guarded_below l.plan l.c
