use Rattle.std.specs.List.{flat_map}
use Rattle.run_text.specs.Lines.{rest_line}
use Rattle.run_text.specs.Summary.{sum_line_at, summary_head}
use Rattle.run_text.proofs.Taking.{Puts-exit, Puts-exit-then, Puts-then}
use Rattle.run_text.proofs.summary.put_summary.Goals as goal

pub returns-in_err-summary_head : goal.returns-in_err-summary_head
returns-in_err-summary_head g c =
    Puts-exit _ _ _ _ (summary_head c.args.k c.args.cells c.args.links) _ _ c.from_residual.ensures.0 c.in_err-summary_head.ensures

pub returns-in_err-put_sums : goal.returns-in_err-put_sums
returns-in_err-put_sums g c =
    let lines = flat_map (sum_line_at (g.H.ResultLists.outline c.args.held.now) (g.H.ResultLists.lists c.args.held.now))
    (g.H.ResultLists.outline c.args.held.now).prints in
    Puts-exit-then _ _ _ _ _ _ (summary_head c.args.k c.args.cells c.args.links) lines rest_line _
    c.from_residual-in_err-put_sums.ensures.0 c.in_ok-summary_head.ensures c.in_err-put_sums.ensures

pub returns : goal.returns
returns g c =
    let lines = flat_map (sum_line_at (g.H.ResultLists.outline c.args.held.now) (g.H.ResultLists.lists c.args.held.now))
    (g.H.ResultLists.outline c.args.held.now).prints in
    Puts-then _ _ _ _ _ _ (summary_head c.args.k c.args.cells c.args.links) _ _ c.in_ok-summary_head.ensures
    (Puts-then _ _ _ _ _ _ lines rest_line _ c.in_ok-put_sums.ensures c.rest_line.ensures)
