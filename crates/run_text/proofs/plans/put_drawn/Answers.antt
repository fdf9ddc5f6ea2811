use Rattle.std.proofs.Common.{length}
use Rattle.std.specs.List.{flat_map}
use Rattle.number_lists.specs.Numbers.{from_to}
use Rattle.run_text.specs.declared.plans.PlanLine.TheVariants.{Head}
use Rattle.run_text.specs.Plans.{cell_line_of, link_line_of, plan_line}
use Rattle.run_text.proofs.Taking.{Puts-exit, Puts-exit-then, Puts-then}
use Rattle.run_text.proofs.plans.put_drawn.Goals as goal

pub returns-in_err-put_head : goal.returns-in_err-put_head
returns-in_err-put_head g c =
    let p = c.args.plan.now in
    Puts-exit _ _ _ _ (plan_line (Head p.ranks (length p.cells) (length p.links) p.remote)) _ _ c.from_residual.ensures.0
    c.in_err-put_head.ensures

pub returns-in_err-put_cells : goal.returns-in_err-put_cells
returns-in_err-put_cells g c =
    let p = c.args.plan.now in
    Puts-exit-then _ _ _ _ _ _ (plan_line (Head p.ranks (length p.cells) (length p.links) p.remote))
    (flat_map (cell_line_of p) (from_to 0 (length p.cells))) _ _
    c.from_residual-in_err-put_cells.ensures.0 c.in_ok-put_head.ensures c.in_err-put_cells.ensures

pub returns : goal.returns
returns g c =
    let p = c.args.plan.now in
    Puts-then _ _ _ _ _ _ (plan_line (Head p.ranks (length p.cells) (length p.links) p.remote)) _ _ c.in_ok-put_head.ensures
    (Puts-then _ _ _ _ _ _ (flat_map (cell_line_of p) (from_to 0 (length p.cells)))
    (flat_map (link_line_of p) (from_to 0 (length p.links))) _ c.in_ok-put_cells.ensures c.put_links.ensures)
