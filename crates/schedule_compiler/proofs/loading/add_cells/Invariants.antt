use Rattle.std.proofs.Common.{◌≡◌, ◌++◌, flat_map, take}
use Rattle.plan_core.specs.Values.{initial}
use Rattle.schedule_compiler.proofs.loading.add_cells.Given as goal

abbrev pub invariant-loop-c : goal.invariant-loop-c
invariant-loop-c l = l.bytes.items ≡ l.initial.bytes.items ++ flat_map (initial l.plan l.inputs) (take l.c-index l.own)
