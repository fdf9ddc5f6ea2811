use Rattle.std.proofs.Common.{◌≡◌, ◌++◌, map, filter}
use Rattle.plan_core.specs.Plan.{from_to}
use Rattle.plan_tables.specs.AreaTables.{counted_start}
use Rattle.plan_tables.proofs.PerClass.{counted_call, present}
use Rattle.plan_tables.proofs.appended.add_area_calls.Given as goal

abbrev pub invariant-loop-class : goal.invariant-loop-class
invariant-loop-class l = record {
  start : l.start ≡ counted_start l.plan l.r l.class;
  calls : l.calls.items ≡ l.initial.calls.items ++ map (counted_call l.plan l.r) (filter (present l.plan l.r) (from_to 0 l.class));
}
