-- One cell more in each turn.
use Rattle.std.proofs.Common.{◌<◌, length, arith}
use Rattle.plan_costs.proofs.Walking.{latest_more}
use Rattle.plan_costs.proofs.path.latest.Goals as goal

pub loop-c-preserved : goal.loop-c-preserved
loop-c-preserved c =
    let n = c.cell_count-c-end.ensures in
    let t = c.loop-c-test.true in
    let below : c.loop-c.c < length c.args.plan.now.cells = omega (arith, n, t) in
    latest_more c.args.plan.now c.args.times.now c.loop-c.c c.loop-c.latest c.later_cell-latest.result c.loop-c.invariant below
    c.later_cell-latest.ensures
