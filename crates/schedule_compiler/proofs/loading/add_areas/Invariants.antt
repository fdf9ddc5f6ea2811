use Rattle.std.proofs.Common.{◌≡◌, ◌++◌, flat_map}
use Rattle.plan_core.specs.Plan.{from_to}
use Rattle.schedule_compiler.proofs.Memory.{area_of}
use Rattle.schedule_compiler.proofs.loading.add_areas.Given as goal

abbrev pub invariant-loop-class : goal.invariant-loop-class
invariant-loop-class l = l.bytes.items ≡ l.initial.bytes.items ++ flat_map (area_of l.plan l.r) (from_to 0 l.class)
