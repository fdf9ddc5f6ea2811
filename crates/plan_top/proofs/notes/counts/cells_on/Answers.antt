-- One number more in each turn.
use Rattle.std.proofs.Common.{ℕ, Bool, cond, ◌==◌, ap, ◌∙◌}
use Rattle.plan_core.specs.declared.Cell.{Cell}
use Rattle.plan_core.specs.Plan.{cell}
use Rattle.plan_top.proofs.notes.Counting.{count_more, counted}
use Rattle.plan_top.proofs.notes.counts.cells_on.Goals as goal

pub loop-c-preserved : goal.loop-c-preserved
loop-c-preserved c =
    let t : ℕ → Bool = λ k. (cell c.args.plan.now k).rank == c.args.r in
    let more = count_more t c.loop-c.c in
    counted _ _ _ _ _ _ c.loop-c.invariant.0 c.loop-c.invariant.1
    (c.one_if-count.ensures.value ∙ ap (λ (k : Cell). cond (k.rank == c.args.r) 1 0) c.cell_at.ensures)
    c.one_if-count.ensures.most more
