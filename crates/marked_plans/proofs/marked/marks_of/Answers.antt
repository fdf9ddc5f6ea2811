use Rattle.std.proofs.Common.{◌∙◌, ap}
use Rattle.plan_core.specs.Draw.{HeldCells}
use Rattle.marked_plans.proofs.Firsts.{held_buffers, held_ranks}
use Rattle.marked_plans.proofs.Rows.{all_marks}
use Rattle.marked_plans.proofs.marked.marks_of.Goals as goal

pub mark_results-requires-clause-buffers : goal.mark_results-requires-clause-buffers
mark_results-requires-clause-buffers c =
    ap (λ (h : HeldCells). h.buffers) c.requires.held ∙ held_buffers c.args.shape.now c.recall_form.ensures.shape

pub mark_results-requires-clause-ranks : goal.mark_results-requires-clause-ranks
mark_results-requires-clause-ranks c =
    ap (λ (h : HeldCells). h.ranks) c.requires.held ∙ held_ranks c.args.shape.now c.recall_form.ensures.shape

pub returns : goal.returns
returns c =
    all_marks c.args.shape.now c.args.held.now c.new-marks.result.items c.mark_results.new.marks.items _ c.requires.held
    c.new-marks.ensures.items c.in_ok-mark_results.ensures c.in_ok-mark_barriers.ensures
