-- One row more in each turn.
use Rattle.std.proofs.Common.{ap, sym, subst, ◌∙◌}
use Rattle.plan_core.specs.Plan.{Plan}
use Rattle.plan_core.specs.Draw.{HasRoom, add_all}
use Rattle.plan_core.proofs.Drawing.{add_all-none}
use Rattle.plan_steps.specs.StepContext.{row}
use Rattle.plan_steps.proofs.Rows.{room-rows, rows-more}
use Rattle.plan_steps.proofs.row.draw_rows.Goals as goal

pub loop-number-init : goal.loop-number-init
loop-number-init g c = sym (add_all-none c.args.plan.now)

pub draw_row-requires-clause-fits : goal.draw_row-requires-clause-fits
draw_row-requires-clause-fits g c = c.requires.fits c.loop-number.number c.loop-number-test.true

pub draw_row-requires-clause-room : goal.draw_row-requires-clause-room
draw_row-requires-clause-room g c =
    let f = g.R.Rows.cell c.args.cells.now c.args.site.now in
    let P : Plan → Type 0 = λ p. HasRoom p (row c.args.site.now f c.loop-number.number) in
    subst P (sym c.loop-number.invariant)
    (room-rows c.args.plan.now c.args.site.now f c.args.n c.loop-number.number c.requires.room c.loop-number-test.true)

pub loop-number-preserved : goal.loop-number-preserved
loop-number-preserved g c =
    let f = g.R.Rows.cell c.args.cells.now c.args.site.now in
    c.in_ok-draw_row.ensures
    ∙ ap (λ p. add_all p (row c.args.site.now f c.loop-number.number)) c.loop-number.invariant
    ∙ sym (rows-more c.args.plan.now c.args.site.now f c.loop-number.number)
