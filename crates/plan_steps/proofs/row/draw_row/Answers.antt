-- As many cells as there are places.
use Rattle.std.proofs.Common.{ap, sym, subst, ◌∙◌, ℕ, map, arith}
use Rattle.plan_core.specs.Plan.{from_to}
use Rattle.plan_core.specs.Draw.{HasRoom, add_all}
use Rattle.plan_steps.proofs.row.draw_row.Goals as goal

pub draw_cells-requires-clause-at_most : goal.draw_cells-requires-clause-at_most
draw_cells-requires-clause-at_most g c =
    let n = c.count.ensures.value in
    let a = c.requires.all in
    omega (arith, n, a)

pub draw_cells-requires-clause-room : goal.draw_cells-requires-clause-room
draw_cells-requires-clause-room g c =
    let f = g.R.Rows.cell c.args.cells.now c.args.site.now c.args.number in
    let P : ℕ → Type 0 = λ n. HasRoom c.args.plan.now (map f (from_to 0 n)) in
    subst P (sym c.count.ensures.value) c.requires.room

pub returns : goal.returns
returns g c =
    let f = g.R.Rows.cell c.args.cells.now c.args.site.now c.args.number in
    c.in_ok-draw_cells.ensures ∙ ap (λ n. add_all c.args.plan.now (map f (from_to 0 n))) c.count.ensures.value
