use Rattle.std.proofs.Common.{◌≡◌, ◌≤◌, ◌+◌, ◌*◌, ◌^◌, ◌++◌}
use Rattle.std.specs.List.{flat_map}
use Rattle.number_lists.specs.Numbers.{from_to}
use Rattle.schedule_compiler.specs.shapes.Judging.{size_upto}
use Rattle.marked_plans.specs.Marks.{step_marks}
use Rattle.marked_plans.proofs.barriers.mark_barriers.Given as goal

abbrev pub invariant-loop-k : goal.invariant-loop-k
invariant-loop-k l = record {
  links : l.links ≡ (size_upto l.shape l.k).links;
  at_most : l.links ≤ 2 ^ 15 + 2 ^ 18 * l.k;
  marks : l.marks.items ≡ l.fn.marks.items ++ flat_map (step_marks l.shape) (from_to 0 l.k);
}
