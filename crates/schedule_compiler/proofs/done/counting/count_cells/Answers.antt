-- One cell more in each turn.
use Rattle.std.proofs.Common.{◌+◌, arith, cond, get_or, set, nat_lt, length, map, ap, ◌∙◌}
use Rattle.plan_core.specs.Plan.{from_to}
use Rattle.plan_tables.specs.Rising.{nothing}
use Rattle.plan_tables.specs.Tables.{rank_of}
use Rattle.plan_tables.proofs.Sums.{counted-at_most, counted-more}
use Rattle.schedule_compiler.proofs.done.counting.count_cells.Goals as goal

pub loop-c-init : goal.loop-c-init
loop-c-init c = c.in_ok-counts.ensures ∙ ap (λ n. map nothing (from_to 0 n)) c.ranks.ensures

pub count-requires : goal.count-requires
count-requires c =
    let p = c.args.plan.now in
    let f = counted-at_most (rank_of p) c.loop-c.c p.ranks c.rank_of-key.result c.loop-c.counts c.loop-c.invariant in
    let n = ap length c.cells.ensures in
    let t = c.loop-c-test.true in
    let r = c.requires.few_cells in
    omega (arith, f, n, t, r)

pub loop-c-preserved : goal.loop-c-preserved
loop-c-preserved c =
    let p = c.args.plan.now in
    c.count.ensures
    ∙ ap (λ k. cond (nat_lt k (length c.loop-c.counts)) (set c.loop-c.counts k (get_or c.loop-c.counts k 0 + 1)) c.loop-c.counts)
    c.rank_of-key.ensures.value
    ∙ counted-more (rank_of p) c.loop-c.c p.ranks c.loop-c.counts c.loop-c.invariant
