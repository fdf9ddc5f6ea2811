-- One input more in each turn.
use Rattle.std.proofs.Common.{ℕ, ◌<◌, ◌≤◌, ◌≡◌, length, map, ap, ap₂, sym, subst, ◌∙◌, arith}
use Rattle.plan_core.specs.Plan.{Plan, from_to}
use Rattle.plan_core.specs.Draw.{HasRoom, add_all}
use Rattle.coll_shape.specs.declared.types.Buffer.{Buffer}
use Rattle.coll_shape.specs.Outline.{buffer_at}
use Rattle.plan_steps.proofs.Drawings.{same-drawing}
use Rattle.schedule_compiler.specs.shapes.Drawing.{drawn_input, drawn_inputs, hold_row, input_cell}
use Rattle.plan_steps.specs.declared.drawing.Drawing.{Drawing}
use Rattle.schedule_compiler.proofs.shapes.Upto.{at_most-inputs, inputs-next, inputs-none, room-input, tables-inputs, the-buffer}
use Rattle.schedule_compiler.proofs.shapes.drawing.add_inputs.Goals as goal

pub loop-b-init : goal.loop-b-init
loop-b-init c = c.requires ∙ sym (inputs-none c.args.shape.now)

pub overflow_cast-first : goal.overflow_cast-first
overflow_cast-first c =
    let o = c.args.shape.now in
    let n = c.input_count-b-end.ensures.value in
    let t = c.loop-b-test.true in
    let f = (at_most-inputs o c.recall_form.ensures.shape.shape c.loop-b.b (let z : c.loop-b.b ≤ o.inputs = omega (arith, n, t) in z)).1 in
    let e = ap length c.cells.ensures ∙ ap (λ (d : Drawing). length d.plan.cells) c.loop-b.invariant in
    omega (arith, f, e)

pub draw_inputs-requires-clause-room : goal.draw_inputs-requires-clause-room
draw_inputs-requires-clause-room c =
    let o = c.args.shape.now in
    let n = c.input_count-b-end.ensures.value in
    let t = c.loop-b-test.true in
    let P : Plan → Buffer → ℕ → Type 0 = λ p x r. HasRoom p (map (input_cell x) (from_to 0 r)) in
    let room = room-input o c.recall_form.ensures.shape.shape c.loop-b.b (let z : c.loop-b.b ≤ o.inputs = omega (arith, n, t) in z) in
    let x : buffer_at o c.loop-b.b ≡ c.index-buffers-b.result = the-buffer o c.loop-b.b c.buffers.result.now c.index-buffers-b.result
    c.buffers.ensures.value (let i = c.recall_form.ensures.shape.shape.few_inputs in let z : c.loop-b.b < length o.buffers =
    omega (arith, n, t, i) in z)
    c.index-buffers-b.is in
    subst (λ p. P p c.index-buffers-b.result c.ranks-ranks.result) (sym (ap (λ (d : Drawing). d.plan) c.loop-b.invariant))
    (subst (λ v. P (drawn_inputs o c.loop-b.b).plan v c.ranks-ranks.result) x
    (subst (λ v. P (drawn_inputs o c.loop-b.b).plan (buffer_at o c.loop-b.b) v) (sym c.ranks-ranks.ensures.value) room))

pub hold_inputs-requires-clause-ranks : goal.hold_inputs-requires-clause-ranks
hold_inputs-requires-clause-ranks c =
    let o = c.args.shape.now in
    let e = ap (λ (d : Drawing). d.held.ranks) c.loop-b.invariant in
    let t = (tables-inputs o c.recall_form.ensures.shape.shape.few_ranks c.loop-b.b).ranks in
    let r = c.ranks-ranks.ensures.value in
    omega (arith, e, t, r)

pub hold_inputs-requires-clause-buffer : goal.hold_inputs-requires-clause-buffer
hold_inputs-requires-clause-buffer c =
    let o = c.args.shape.now in
    let e = ap (λ (d : Drawing). d.held.buffers) c.loop-b.invariant in
    let t = (tables-inputs o c.recall_form.ensures.shape.shape.few_ranks c.loop-b.b).buffers in
    let n = c.input_count-b-end.ensures.value in
    let l = c.loop-b-test.true in
    let i = c.recall_form.ensures.shape.shape.few_inputs in
    omega (arith, e, t, n, l, i)

pub hold_inputs-requires-clause-at_most : goal.hold_inputs-requires-clause-at_most
hold_inputs-requires-clause-at_most c =
    let o = c.args.shape.now in
    let n = c.input_count-b-end.ensures.value in
    let t = c.loop-b-test.true in
    let f = (at_most-inputs o c.recall_form.ensures.shape.shape c.loop-b.b (let z : c.loop-b.b ≤ o.inputs = omega (arith, n, t) in z)).1 in
    let e = ap length c.cells.ensures ∙ ap (λ (d : Drawing). length d.plan.cells) c.loop-b.invariant in
    let r = c.ranks-ranks.ensures.value in
    let q = c.recall_form.ensures.shape.shape.few_ranks in
    omega (arith, f, e, r, q)

pub loop-b-preserved : goal.loop-b-preserved
loop-b-preserved c =
    let o = c.args.shape.now in
    let b = c.loop-b.b in
    let d = drawn_inputs o b in
    let i = c.loop-b.invariant in
    let n = c.input_count-b-end.ensures.value in
    let t = c.loop-b-test.true in
    let u = c.recall_form.ensures.shape.shape.few_inputs in
    let below : b < length o.buffers = omega (arith, n, t, u) in
    let x : buffer_at o b ≡ c.index-buffers-b.result =
    the-buffer o b c.buffers.result.now c.index-buffers-b.result c.buffers.ensures.value below c.index-buffers-b.is in
    let r = c.ranks-ranks.ensures.value in
    let e = ap length c.cells.ensures ∙ ap (λ (d : Drawing). length d.plan.cells) i in
    same-drawing _ (drawn_input o d b)
    (c.in_ok-draw_inputs.ensures
    ∙ ap (λ (d : Drawing). add_all d.plan (map (input_cell c.index-buffers-b.result) (from_to 0 c.ranks-ranks.result))) i
    ∙ ap₂ (λ y n. add_all d.plan (map (input_cell y) (from_to 0 n))) (sym x) r)
    (c.hold_inputs.ensures
    ∙ ap (λ (d : Drawing). hold_row d.held b (length c.cells.result.now) c.ranks-ranks.result) i
    ∙ ap₂ (λ y n. hold_row d.held b y n) e r)
    (ap (λ (d : Drawing). d.exits) i)
    ∙ sym (inputs-next o b)
