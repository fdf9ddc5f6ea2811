use Rattle.std.proofs.Common.{◌≡◌, ◌++◌, map, take}
use Rattle.ptl_types.specs.declared.steps.Call.TheVariants.{CtCell}
use Rattle.plan_tables.proofs.appended.add_counter_calls.Given as goal

abbrev pub invariant-loop-c : goal.invariant-loop-c
invariant-loop-c l = l.calls.items ≡ l.initial.calls.items ++ map CtCell (take l.c-index l.own)
