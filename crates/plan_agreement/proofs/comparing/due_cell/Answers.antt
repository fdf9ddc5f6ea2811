-- There is a place for each buffer of the shape at each rank.
use Rattle.std.proofs.Common.{◌<◌, ap, ◌∙◌, sym, subst}
use Rattle.plan_core.specs.Draw.{HeldCells}
use Rattle.schedule_compiler.proofs.shapes.Final.{fine-shape}
use Rattle.plan_agreement.proofs.comparing.due_cell.Goals as goal

pub cell-requires-clause-buffer : goal.cell-requires-clause-buffer
cell-requires-clause-buffer c =
    let fine = fine-shape c.args.shape.now c.recall_form.ensures.shape in
    subst (λ n. c.args.buffer < n) (sym (ap (λ (h : HeldCells). h.buffers) c.requires.held ∙ fine.held_buffers)) c.requires.buffer

pub cell-requires-clause-rank : goal.cell-requires-clause-rank
cell-requires-clause-rank c =
    let fine = fine-shape c.args.shape.now c.recall_form.ensures.shape in
    subst (λ n. c.args.rank < n) (sym (ap (λ (h : HeldCells). h.ranks) c.requires.held ∙ fine.held_ranks)) c.requires.rank
