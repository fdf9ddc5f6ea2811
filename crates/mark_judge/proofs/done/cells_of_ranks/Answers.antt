-- One cell more in each turn.
use Rattle.std.proofs.Common.{◌∷◌, ◌∙◌, [], arith, length}
use Rattle.std.proofs.lemmas.List.{length-append}
use Rattle.plan_tables.specs.Rising.{of_key}
use Rattle.plan_tables.specs.Tables.{rank_of}
use Rattle.plan_tables.proofs.Passes.{length-table}
use Rattle.mark_judge.proofs.Counts.{counted-more, few-counted}
use Rattle.mark_judge.proofs.done.cells_of_ranks.Goals as goal

pub count_cell-requires-clause-rank : goal.count_cell-requires-clause-rank
count_cell-requires-clause-rank c =
    let p = c.args.plan.now in
    let n = c.cell_count-c-end.ensures in
    let t = c.loop-c-test.true in
    let e = length-table (λ r. length (of_key (rank_of p) c.loop-c.c r)) p.ranks c.loop-c.cells c.loop-c.invariant in
    let h = c.requires.ranks_known c.loop-c.c (omega (arith, n, t)) in
    omega (arith, e, h)

pub count_cell-requires-clause-fits : goal.count_cell-requires-clause-fits
count_cell-requires-clause-fits c =
    let p = c.args.plan.now in
    let n = c.cell_count-c-end.ensures in
    let t = c.loop-c-test.true in
    let few = c.requires.few_cells in
    few-counted (rank_of p) length c.loop-c.c p.ranks c.loop-c.cells (c.requires.ranks_known c.loop-c.c (omega (arith, n, t)))
    c.loop-c.invariant (λ xs. omega arith) (omega (arith, n, t, few))

pub loop-c-preserved : goal.loop-c-preserved
loop-c-preserved c =
    let p = c.args.plan.now in
    let n = c.cell_count-c-end.ensures in
    let t = c.loop-c-test.true in
    let k = c.loop-c.c in
    c.count_cell.ensures
    ∙ counted-more (rank_of p) length k p.ranks c.loop-c.cells (c.requires.ranks_known k (omega (arith, n, t))) c.loop-c.invariant 1
    (length-append (of_key (rank_of p) k (rank_of p k)) (k ∷ []))
