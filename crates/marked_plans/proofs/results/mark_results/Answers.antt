-- One print more in each turn.
use Rattle.std.proofs.Common.{List, ◌++◌, ◌∙◌, ap}
use Rattle.given_lines.specs.declared.given.Mark.{Mark}
use Rattle.marked_plans.specs.Marks.{print_marks}
use Rattle.marked_plans.proofs.Rows.{one_row_more}
use Rattle.marked_plans.proofs.results.mark_results.Goals as goal

pub loop-print-preserved : goal.loop-print-preserved
loop-print-preserved c =
    let o = c.args.shape.now in
    let h = c.args.held.now in
    let i = c.loop-print.print in
    c.in_ok-mark_print.ensures
    ∙ ap (λ (ms : List Mark). ms ++ print_marks o h i) c.loop-print.invariant
    ∙ one_row_more (print_marks o h) c.args.marks.now.items i
