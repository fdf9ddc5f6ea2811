-- There is a place for each buffer of the shape at each rank.
use Rattle.std.proofs.Common.{length, ap, ◌∙◌, arith}
use Rattle.plan_core.specs.Draw.{HeldCells}
use Rattle.schedule_compiler.proofs.shapes.Final.{fine-shape}
use Rattle.judge_cases.proofs.agreement.cell_of.Goals as goal

pub cell-requires-clause-buffer : goal.cell-requires-clause-buffer
cell-requires-clause-buffer c =
    let fine = fine-shape c.args.shape.now c.recall_form.ensures.shape in
    let same = ap (λ (h : HeldCells). h.buffers) c.requires ∙ fine.held_buffers in
    let count = ap length c.buffers-count.ensures.value in
    omega (arith, same, count)

pub cell-requires-clause-rank : goal.cell-requires-clause-rank
cell-requires-clause-rank c =
    let fine = fine-shape c.args.shape.now c.recall_form.ensures.shape in
    let same = ap (λ (h : HeldCells). h.ranks) c.requires ∙ fine.held_ranks in
    let ranks = c.ranks-ranks.ensures.value in
    omega (arith, same, ranks)
