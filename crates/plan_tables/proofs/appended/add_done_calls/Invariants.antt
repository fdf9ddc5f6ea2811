use Rattle.std.proofs.Common.{◌≡◌, ◌++◌, map, take}
use Rattle.plan_core.specs.calls.RankOps.RankOp.{ForDone}
use Rattle.plan_core.specs.calls.Calls.{trigger}
use Rattle.plan_tables.proofs.appended.add_done_calls.Given as goal

abbrev pub invariant-loop-c : goal.invariant-loop-c
invariant-loop-c l = l.calls.items ≡ l.initial.calls.items ++ map (λ k. trigger l.plan (ForDone k)) (take l.c-index l.own)
