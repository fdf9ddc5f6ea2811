use Rattle.std.proofs.Common.{◌≡◌, false, take}
use Rattle.std.specs.List.{list_any}
use Rattle.plan_judge.specs.Guards.{is_guard}
use Rattle.plan_judge.proofs.guards.next_guarded.Given as goal

abbrev pub invariant-loop-l : goal.invariant-loop-l
invariant-loop-l l = list_any (is_guard l.plan l.before l.c) (take l.l-index l.links) ≡ false
