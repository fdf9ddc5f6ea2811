use Rattle.std.proofs.Common.{◌≡◌, ◌++◌, map, take}
use Rattle.plan_core.specs.calls.Calls.{append_call}
use Rattle.plan_tables.proofs.appended.add_append_calls.Given as goal

abbrev pub invariant-loop-c : goal.invariant-loop-c
invariant-loop-c l = l.calls.items ≡ l.initial.calls.items ++ map (append_call l.plan l.r) (take l.c-index l.own)
