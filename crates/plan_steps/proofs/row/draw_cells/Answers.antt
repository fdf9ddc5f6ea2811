-- One cell more in each turn.
use Rattle.std.proofs.Common.{◌∷◌, [], arith, ap, sym, subst, ◌∙◌}
use Rattle.plan_core.specs.Plan.{Plan}
use Rattle.plan_core.specs.Draw.{HasRoom, add}
use Rattle.plan_core.proofs.Drawing.{add_all-none, cells-more, room-at}
use Rattle.plan_steps.proofs.row.draw_cells.Goals as goal

pub loop-place-init : goal.loop-place-init
loop-place-init g c = sym (add_all-none c.args.plan.now)

pub draw-requires-clause-place : goal.draw-requires-clause-place
draw-requires-clause-place g c =
    let t = c.loop-place-test.true in
    let f = c.requires.at_most in
    omega (arith, t, f)

pub draw-requires-clause-room : goal.draw-requires-clause-room
draw-requires-clause-room g c =
    let f = g.R.Rows.cell c.args.cells.now c.args.site.now c.args.number in
    let P : Plan → Type 0 = λ p. HasRoom p (f c.loop-place.place ∷ []) in
    subst P (sym c.loop-place.invariant) (room-at c.args.plan.now f c.args.n c.loop-place.place c.requires.room c.loop-place-test.true)

pub loop-place-preserved : goal.loop-place-preserved
loop-place-preserved g c =
    let f = g.R.Rows.cell c.args.cells.now c.args.site.now c.args.number in
    c.in_ok-draw.ensures
    ∙ ap (λ p. add p (f c.loop-place.place)) c.loop-place.invariant
    ∙ sym (cells-more c.args.plan.now f c.loop-place.place)
