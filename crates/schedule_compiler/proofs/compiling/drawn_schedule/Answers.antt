-- The schedule of a shape can run.
use Rattle.std.proofs.Common.{◌≡◌, IfOk, ap, arith, length, subst, sym}
use Rattle.plan_core.specs.Draw.{HeldCells}
use Rattle.schedule_compiler.proofs.shapes.Final.{fine-shape}
use Rattle.schedule_compiler.specs.shapes.Drawing.{drawing_of, plan_of}
use Rattle.schedule_compiler.specs.Keeping.{CanRun}
use Rattle.schedule_compiler.specs.Schedules.{ScheduleOf}
use Rattle.schedule_compiler.proofs.Kept.{same-parts, shape-can}
use Rattle.schedule_compiler.proofs.compiling.drawn_schedule.Goals as goal

pub of-requires-clause-can : goal.of-requires-clause-can
of-requires-clause-can c =
    let o = c.args.shape.now in
    subst CanRun
    (sym (same-parts c.args.drawn.plan (plan_of o) c.args.drawn.held (drawing_of o).held c.input_count.result o.inputs
    c.requires.plan c.requires.held c.input_count.ensures.value))
    (shape-can o c.recall_form.ensures.shape c.requires.accepted)

pub of-requires-clause-buffers : goal.of-requires-clause-buffers
of-requires-clause-buffers c =
    let many = ap length c.buffers.ensures.value in
    let fine = (fine-shape c.args.shape.now c.recall_form.ensures.shape).held_buffers in
    let held = ap (λ (h : HeldCells). h.buffers) c.requires.held in
    omega (arith, many, fine, held)

pub returns : goal.returns
returns c =
    let o = c.args.shape.now in
    subst (λ (t : ScheduleOf). IfOk c.of.result (λ s. s ≡ t))
    (same-parts c.args.drawn.plan (plan_of o) c.args.drawn.held (drawing_of o).held c.input_count.result o.inputs
    c.requires.plan c.requires.held c.input_count.ensures.value)
    c.of.ensures
