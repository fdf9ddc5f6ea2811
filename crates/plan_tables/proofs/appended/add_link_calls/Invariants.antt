use Rattle.std.proofs.Common.{◌≡◌, ◌++◌, map, take}
use Rattle.plan_core.specs.calls.RankOps.RankOp.{ForLink}
use Rattle.plan_core.specs.calls.Calls.{trigger}
use Rattle.plan_tables.proofs.appended.add_link_calls.Given as goal

abbrev pub invariant-loop-l : goal.invariant-loop-l
invariant-loop-l l = l.calls.items ≡ l.initial.calls.items ++ map (λ k. trigger l.plan (ForLink k)) (take l.l-index l.out)
