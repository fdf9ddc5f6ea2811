-- One step more in each turn.
use Rattle.std.proofs.Common.{◌<◌, ◌≡◌, length, ap, sym, ◌∙◌, arith, get_or}
use Rattle.plan_core.specs.Draw.{HasRoom}
use Rattle.coll_shape.specs.declared.types.CollStep.TheVariants.{Barrier}
use Rattle.coll_shape.specs.Outline.{step_at}
use Rattle.plan_steps.specs.Collectives.{cells_of}
use Rattle.plan_steps.specs.Drawing.{IsBegun, site}
use Rattle.schedule_compiler.proofs.shapes.Upto.{as-drawn, begun-step, room-step, step-after, upto-all, upto-next, upto-none}
use Rattle.schedule_compiler.proofs.shapes.drawing.add_steps.Goals as goal

pub loop-k-init : goal.loop-k-init
loop-k-init c = c.requires.inputs ∙ sym (upto-none c.args.shape.now)

pub add_step-requires-clause-begun : goal.add_step-requires-clause-begun
add_step-requires-clause-begun c =
    let o = c.args.shape.now in
    let k = c.loop-k.k in
    let n = ap length c.steps.ensures.value in
    let l = c.loop-k-test.true in
    let t : step_at o k ≡ get_or c.steps-in-loop-k.result.now k Barrier =
    ap (λ xs. get_or xs k Barrier) (sym c.steps-in-loop-k.ensures.value) in
    as-drawn (λ d s g. IsBegun o d s g) (sym c.loop-k.invariant) t (sym c.group.ensures.value)
    (begun-step o c.recall_form.ensures.shape.shape c.requires.steps c.requires.at_most k (let z : k < length o.steps =
    omega (arith, n, l) in z))

pub add_step-requires-clause-room : goal.add_step-requires-clause-room
add_step-requires-clause-room c =
    let o = c.args.shape.now in
    let k = c.loop-k.k in
    let n = ap length c.steps.ensures.value in
    let l = c.loop-k-test.true in
    let t : step_at o k ≡ get_or c.steps-in-loop-k.result.now k Barrier =
    ap (λ xs. get_or xs k Barrier) (sym c.steps-in-loop-k.ensures.value) in
    as-drawn (λ d s g. HasRoom d.plan (cells_of (site o d s g) s)) (sym c.loop-k.invariant) t (sym c.group.ensures.value)
    (room-step o c.recall_form.ensures.shape.shape c.requires.steps c.requires.at_most k (let z : k < length o.steps =
    omega (arith, n, l) in z))

pub loop-k-preserved : goal.loop-k-preserved
loop-k-preserved c =
    let o = c.args.shape.now in
    let k = c.loop-k.k in
    let t : get_or c.steps-in-loop-k.result.now k Barrier ≡ step_at o k = ap (λ xs. get_or xs k Barrier) c.steps-in-loop-k.ensures.value in
    c.in_ok-add_step.ensures ∙ step-after o c.loop-k.invariant t c.group.ensures.value ∙ sym (upto-next o k)

pub returns : goal.returns
returns c =
    let n = ap length c.steps.ensures.value in
    let l = c.loop-k-test.false in
    let u = c.loop-k.auto in
    c.loop-k.invariant ∙ upto-all c.args.shape.now c.loop-k.k (omega (arith, n, l, u))
