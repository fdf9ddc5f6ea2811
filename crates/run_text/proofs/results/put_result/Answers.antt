use Rattle.std.specs.List.{flat_map}
use Rattle.run_text.specs.Lines.{buffer_lines, rest_line}
use Rattle.run_text.proofs.Taking.{Puts-exit, Puts-then}
use Rattle.run_text.proofs.results.put_result.Goals as goal

pub returns-in_err-put_prints : goal.returns-in_err-put_prints
returns-in_err-put_prints g c =
    let lines = flat_map (buffer_lines (g.H.ResultLists.outline c.args.held.now) (g.H.ResultLists.lists c.args.held.now))
    (g.H.ResultLists.outline c.args.held.now).prints in
    Puts-exit _ _ _ _ lines rest_line _ c.from_residual.ensures.0 c.in_err-put_prints.ensures

pub returns : goal.returns
returns g c =
    let lines = flat_map (buffer_lines (g.H.ResultLists.outline c.args.held.now) (g.H.ResultLists.lists c.args.held.now))
    (g.H.ResultLists.outline c.args.held.now).prints in
    Puts-then _ _ _ _ _ _ lines rest_line _ c.in_ok-put_prints.ensures c.rest_line.ensures
