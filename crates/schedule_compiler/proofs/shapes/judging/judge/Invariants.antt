use Rattle.std.proofs.Common.{◌≡◌, ◌≤◌, ◌-◌, ◌^◌, length}
use Rattle.schedule_compiler.specs.shapes.Judging.{found_from, size_upto}
use Rattle.schedule_compiler.proofs.shapes.judging.judge.Given as goal

abbrev pub invariant-loop-k : goal.invariant-loop-k
invariant-loop-k l = record {
  sum : l.sum ≡ size_upto l.shape l.k;
  found : found_from l.shape 0 (length l.shape.steps) ≡ found_from l.shape l.k (length l.shape.steps - l.k);
  links : l.sum.links ≤ 2 ^ 20;
  bytes : l.sum.bytes ≤ 2 ^ 46;
}
