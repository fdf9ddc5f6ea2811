-- One rank more in each turn.
use Rattle.std.proofs.Common.{ℕ, List, Option, ◌++◌, ◌∙◌, ap}
use Rattle.given_lines.specs.declared.given.Mark.{Mark}
use Rattle.plan_core.specs.Draw.{held_cell}
use Rattle.marked_plans.specs.Marks.{result_mark}
use Rattle.marked_plans.proofs.Rows.{one_row_more}
use Rattle.marked_plans.proofs.results.mark_buffer.Goals as goal

pub loop-rank-preserved : goal.loop-rank-preserved
loop-rank-preserved c =
    let h = c.args.held.now in
    let b = c.args.buffer in
    let r = c.loop-rank.rank in
    c.in_ok-mark_held.ensures
    ∙ ap (λ (v : Option ℕ). c.loop-rank.marks.items ++ result_mark b r v) c.cell.ensures
    ∙ ap (λ (ms : List Mark). ms ++ result_mark b r (held_cell h b r)) c.loop-rank.invariant
    ∙ one_row_more (λ q. result_mark b q (held_cell h b q)) c.args.marks.now.items r
