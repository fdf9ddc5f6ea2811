use Rattle.run_text.proofs.Taking.{Puts-exit, Puts-exit-then, Puts-then}
use Rattle.std.proofs.Common.{◌++◌}
use Rattle.plan_words.specs.Costs.{CostOf, cell_time_lines, path_lines, rank_time_lines, sum_line}
use Rattle.plan_words.proofs.costing.put_costs.Goals as goal

pub returns-in_err-put_cells : goal.returns-in_err-put_cells
returns-in_err-put_cells g c =
    let n = c.args.costs.now.numbers.now in
    let p = c.args.costs.now.plan.now in
    let t = c.args.costs.now.times.now in
    let path = c.args.costs.now.path.now in
    let all : CostOf = record { times = t; ranks = c.args.costs.now.ranks.now; path = path } in
    Puts-exit _ _ _ _ (cell_time_lines p t) (rank_time_lines all.ranks ++ (path_lines n p t path ++ sum_line p all)) _
    c.from_residual.ensures.0 c.in_err-put_cells.ensures

pub returns-in_err-put_ranks : goal.returns-in_err-put_ranks
returns-in_err-put_ranks g c =
    let n = c.args.costs.now.numbers.now in
    let p = c.args.costs.now.plan.now in
    let t = c.args.costs.now.times.now in
    let path = c.args.costs.now.path.now in
    let all : CostOf = record { times = t; ranks = c.args.costs.now.ranks.now; path = path } in
    Puts-exit-then _ _ _ _ _ _ (cell_time_lines p t) (rank_time_lines all.ranks) (path_lines n p t path ++ sum_line p all) _
    c.from_residual-in_err-put_ranks.ensures.0 c.in_ok-put_cells.ensures c.in_err-put_ranks.ensures

pub returns-in_err-put_path : goal.returns-in_err-put_path
returns-in_err-put_path g c =
    let n = c.args.costs.now.numbers.now in
    let p = c.args.costs.now.plan.now in
    let t = c.args.costs.now.times.now in
    let path = c.args.costs.now.path.now in
    let all : CostOf = record { times = t; ranks = c.args.costs.now.ranks.now; path = path } in
    Puts-then _ _ _ _ _ _ (cell_time_lines p t) (rank_time_lines all.ranks ++ (path_lines n p t path ++ sum_line p all)) _
    c.in_ok-put_cells.ensures
    (Puts-exit-then _ _ _ _ _ _ (rank_time_lines all.ranks) (path_lines n p t path) (sum_line p all) _
    c.from_residual-in_err-put_path.ensures.0 c.in_ok-put_ranks.ensures c.in_err-put_path.ensures)

pub returns : goal.returns
returns g c =
    let n = c.args.costs.now.numbers.now in
    let p = c.args.costs.now.plan.now in
    let t = c.args.costs.now.times.now in
    let path = c.args.costs.now.path.now in
    let all : CostOf = record { times = t; ranks = c.args.costs.now.ranks.now; path = path } in
    Puts-then _ _ _ _ _ _ (cell_time_lines p t) (rank_time_lines all.ranks ++ (path_lines n p t path ++ sum_line p all)) _
    c.in_ok-put_cells.ensures
    (Puts-then _ _ _ _ _ _ (rank_time_lines all.ranks) (path_lines n p t path ++ sum_line p all) _ c.in_ok-put_ranks.ensures
    (Puts-then _ _ _ _ _ _ (path_lines n p t path) (sum_line p all) _ c.in_ok-put_path.ensures c.put_sum.ensures))
