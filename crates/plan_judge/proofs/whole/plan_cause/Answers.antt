-- No row is at fault.
use Rattle.std.proofs.Common.{ℕ, List, ◌≡◌, ◌+◌, ◌-◌, ◌^◌, ◌<◌, ◌≤◌, length, sum_by, ap, arith, sym}
use Rattle.plan_core.specs.Plan.{Plan}
use Rattle.plan_judge.specs.Causes.{first_other}
use Rattle.plan_judge.specs.Sizes.{IsSized}
use Rattle.plan_judge.proofs.Sizes.{sized_clear}
use Rattle.plan_judge.proofs.whole.plan_cause.Goals as goal

-- in the numbers that the tests have
sized_by : (p : Plan) (lengths : List ℕ) (cells links others bytes : ℕ) → cells ≡ length p.cells → links ≡ length p.links
    → others ≡ first_other p lengths → bytes ≡ sum_by (λ k. k.length) p.cells + sum_by (λ k. k.length) p.links
    → 0 < p.ranks → p.ranks ≤ 256 → others ≤ cells → cells < 2 ^ 24 → cells + links < 2 ^ 32 - 1 → bytes < 2 ^ 64 → IsSized p lengths
sized_by p lengths cells links others bytes a b d e f g h i j k = record {
  some_rank = f;
  few_ranks = g;
  all_there = omega (arith, a, d, h);
  few_cells = omega (arith, a, i);
  few_together = omega (arith, a, b, j);
  few_bytes = omega (arith, e, k);
}

pub returns-clause-cause : goal.returns-clause-cause
returns-clause-cause c =
    let p = c.args.plan.now in
    let lengths = c.args.lengths.now in
    sym (sized_clear p lengths (sized_by p lengths (length c.cells.result.now) (length c.links.result.now) c.first_other.result
    c.bytes_of.result
    (ap length c.cells.ensures)
    (ap length c.links.ensures) c.first_other.ensures c.bytes_of.ensures
    (omega arith)
    (omega arith)
    (omega arith)
    (omega arith)
    (omega arith)
    (omega arith)))

pub returns-clause-sized : goal.returns-clause-sized
returns-clause-sized c =
    let p = c.args.plan.now in
    let lengths = c.args.lengths.now in
    λ q. sized_by p lengths (length c.cells.result.now) (length c.links.result.now) c.first_other.result c.bytes_of.result
    (ap length c.cells.ensures)
    (ap length c.links.ensures) c.first_other.ensures c.bytes_of.ensures
    (omega arith)
    (omega arith)
    (omega arith)
    (omega arith)
    (omega arith)
    (omega arith)
