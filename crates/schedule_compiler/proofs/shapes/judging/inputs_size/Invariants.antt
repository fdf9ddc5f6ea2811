use Rattle.std.proofs.Common.{◌≡◌, ◌≤◌, ◌*◌, ◌^◌}
use Rattle.schedule_compiler.specs.shapes.Judging.{inputs_size}
use Rattle.schedule_compiler.proofs.shapes.judging.inputs_size.Given as goal
use Rattle.coll_shape.specs.declared.limits.TheConstants.{MOST_RANKS}

abbrev pub invariant-loop-b : goal.invariant-loop-b
invariant-loop-b l = record {
  sum : l.sum ≡ inputs_size l.shape l.b;
  links : l.sum.links ≤ MOST_RANKS * l.b;
  bytes : l.sum.bytes ≤ 2 ^ 35 * l.b;
}
