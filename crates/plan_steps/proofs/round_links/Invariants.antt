use Rattle.std.proofs.Common.{◌≡◌, ◌≤◌, ◌+◌, ◌-◌, ◌*◌, ◌^◌, sum_by}
use Rattle.plan_core.specs.Plan.{from_to}
use Rattle.plan_steps.proofs.round_links.Given as goal

abbrev pub invariant-loop-k : goal.invariant-loop-k
invariant-loop-k l = record {
  value : l.links ≡ sum_by (λ k. l.m + (l.m - 2 ^ k)) (from_to 0 l.k);
  at_most : l.links ≤ 512 * l.k;
}
