-- What was judged is answered.
use Rattle.std.proofs.Common.{ap, ◌∙◌, arith}
use Rattle.schedule_compiler.specs.declared.shapes.footprints.Size.{Size}
use Rattle.schedule_compiler.proofs.shapes.Sizes.{are-steps, refusal-found}
use Rattle.schedule_compiler.proofs.shapes.Upto.{judged-fault, not-refused}
use Rattle.schedule_compiler.proofs.shapes.compiling.drawn_shape.Goals as goal

pub returns-in-Err : goal.returns-in-Err
returns-in-Err c = judged-fault c.args.shape.now (are-steps c.args.shape.now c.recall_form.ensures.shape) _ c.in-Err.ensures

pub draw-requires-clause-at_most : goal.draw-requires-clause-at_most
draw-requires-clause-at_most c = not-refused c.args.shape.now c.recall_form.ensures.shape.shape c.in-Ok.ensures.0

pub draw-requires-clause-most : goal.draw-requires-clause-most
draw-requires-clause-most c =
    let f = not-refused c.args.shape.now c.recall_form.ensures.shape.shape c.in-Ok.ensures.0 in
    let e = ap (λ (s : Size). s.links) c.in-Ok.ensures.1 in
    omega (arith, f, e)

pub returns-in-Ok-draw : goal.returns-in-Ok-draw
returns-in-Ok-draw c = (
  refusal-found c.args.shape.now (are-steps c.args.shape.now c.recall_form.ensures.shape) ∙ c.in-Ok.ensures.0,
  (c.in-Ok-draw.ensures.plan, c.in-Ok-draw.ensures.held),
)

pub returns-in-Err-draw : goal.returns-in-Err-draw
returns-in-Err-draw c = refusal-found c.args.shape.now (are-steps c.args.shape.now c.recall_form.ensures.shape) ∙ c.in-Ok.ensures.0
