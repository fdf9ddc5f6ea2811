-- One cell more in each turn.
use Rattle.std.proofs.Common.{◌<◌, length, replicate, arith, ap, ◌∙◌}
use Rattle.plan_core.specs.declared.Cell.{Cell}
use Rattle.plan_costs.proofs.RankTimes.{more_ranks, no_ranks}
use Rattle.plan_costs.proofs.ranks.by_rank.Goals as goal

pub loop-c-init : goal.loop-c-init
loop-c-init c = no_ranks c.args.plan.now c.args.times.now c.in_ok-ranks.ranks.items
    (c.in_ok-ranks.ensures ∙ ap (λ n. replicate n 0) c.ranks.ensures)

pub reach-requires : goal.reach-requires
reach-requires c =
    let n = c.cell_count-c-end.ensures in
    let t = c.loop-c-test.true in
    let below : c.loop-c.c < length c.args.plan.now.cells = omega (arith, n, t) in
    let h = c.requires.timed.tabled.ranks_known c.loop-c.c below in
    let e = ap (λ (k : Cell). k.rank) c.cell_at.ensures in
    let k = c.loop-c.invariant.count in
    omega (arith, h, e, k)

pub loop-c-preserved : goal.loop-c-preserved
loop-c-preserved c =
    let n = c.cell_count-c-end.ensures in
    let t = c.loop-c-test.true in
    let below : c.loop-c.c < length c.args.plan.now.cells = omega (arith, n, t) in
    let h = c.requires.timed.tabled.ranks_known c.loop-c.c below in
    let e = ap (λ (k : Cell). k.rank) c.cell_at.ensures in
    let k = c.loop-c.invariant.count in
    let lt : c.cell_at.result.rank < length c.loop-c.ranks.items = omega (arith, h, e, k) in
    more_ranks c.args.plan.now c.args.times.now c.loop-c.c c.cell_at.result.rank c.cell.result c.loop-c.ranks.items c.reach.new.ranks.items
    c.loop-c.invariant e lt c.cell.ensures c.reach.ensures
