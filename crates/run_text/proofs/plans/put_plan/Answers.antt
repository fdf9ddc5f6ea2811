use Rattle.std.specs.List.{flat_map}
use Rattle.number_lists.specs.Numbers.{from_to}
use Rattle.run_text.specs.declared.plans.PlanLine.TheVariants.{EndLine}
use Rattle.run_text.specs.Plans.{done_line_of, drawn_text, plan_line}
use Rattle.run_text.proofs.Taking.{Puts-exit, Puts-exit-then, Puts-then}
use Rattle.run_text.proofs.plans.put_plan.Goals as goal

pub returns-in_err-put_drawn : goal.returns-in_err-put_drawn
returns-in_err-put_drawn g c =
    let p = g.T.PlanTables.drawn c.args.tables.now in
    Puts-exit _ _ _ _ (drawn_text p) _ _ c.from_residual.ensures.0 (rw c.plan-plan.ensures.value at c.in_err-put_drawn.ensures)

pub returns-in_err-put_done : goal.returns-in_err-put_done
returns-in_err-put_done g c =
    let p = g.T.PlanTables.drawn c.args.tables.now in
    Puts-exit-then _ _ _ _ _ _ (drawn_text p) (flat_map (done_line_of p) (from_to 0 p.ranks)) _ _
    c.from_residual-in_err-put_done.ensures.0 (rw c.plan-plan.ensures.value at c.in_ok-put_drawn.ensures) c.in_err-put_done.ensures

pub returns : goal.returns
returns g c =
    let p = g.T.PlanTables.drawn c.args.tables.now in
    Puts-then _ _ _ _ _ _ (drawn_text p) _ _ (rw c.plan-plan.ensures.value at c.in_ok-put_drawn.ensures)
    (Puts-then _ _ _ _ _ _ (flat_map (done_line_of p) (from_to 0 p.ranks)) (plan_line EndLine) _ c.in_ok-put_done.ensures
    c.plan_line.ensures)
