-- One cell more in each turn.
use Rattle.std.proofs.Common.{◌∷◌, [], ap, sym, subst, ◌∙◌}
use Rattle.plan_core.specs.Plan.{Plan}
use Rattle.plan_core.specs.Draw.{HasRoom, add}
use Rattle.plan_core.proofs.Drawing.{add_all-none, cells-more, room-at}
use Rattle.schedule_compiler.specs.shapes.Drawing.{input_cell}
use Rattle.schedule_compiler.proofs.shapes.drawing.draw_inputs.Goals as goal

pub loop-r-init : goal.loop-r-init
loop-r-init c = sym (add_all-none c.args.plan.now)

pub draw_input-requires-clause-room : goal.draw_input-requires-clause-room
draw_input-requires-clause-room c =
    let P : Plan → Type 0 = λ p. HasRoom p (input_cell c.args.buffer.now c.loop-r.r ∷ []) in
    subst P (sym c.loop-r.invariant) (room-at c.args.plan.now (input_cell c.args.buffer.now) c.args.ranks c.loop-r.r c.requires.room
    c.loop-r-test.true)

pub loop-r-preserved : goal.loop-r-preserved
loop-r-preserved c =
    c.in_ok-draw_input.ensures
    ∙ ap (λ p. add p (input_cell c.args.buffer.now c.loop-r.r)) c.loop-r.invariant
    ∙ sym (cells-more c.args.plan.now (input_cell c.args.buffer.now) c.loop-r.r)
