use Rattle.std.specs.List.{flat_map}
use Rattle.number_lists.specs.Numbers.{from_to}
use Rattle.run_text.specs.declared.plans.PlanLine.TheVariants.{EndLine}
use Rattle.run_text.specs.Plans.{done_line_of, drawn_text, plan_line}
use Rattle.run_text.proofs.Taking.{Puts-exit, Puts-exit-then, Puts-then}
use Rattle.plan_top.specs.Texts.{mark_line}
use Rattle.plan_top.proofs.writing.put_marked.Goals as goal

pub returns-in_err-put_drawn : goal.returns-in_err-put_drawn
returns-in_err-put_drawn g c =
    let p = c.args.marked.now.plan in
    let drawn = rw (c.plan.ensures.value, c.plan-plan.ensures) at c.in_err-put_drawn.ensures in
    Puts-exit _ _ _ _ (drawn_text p) _ _ c.from_residual.ensures.0 drawn

pub returns-in_err-put_done : goal.returns-in_err-put_done
returns-in_err-put_done g c =
    let p = c.args.marked.now.plan in
    let drawn = rw (c.plan.ensures.value, c.plan-plan.ensures) at c.in_ok-put_drawn.ensures in
    let done = rw c.plan-plan.ensures at c.in_err-put_done.ensures in
    Puts-exit-then _ _ _ _ _ _ (drawn_text p) (flat_map (done_line_of p) (from_to 0 p.ranks)) _ _
    c.from_residual-in_err-put_done.ensures.0 drawn done

pub returns-in_err-put_marks : goal.returns-in_err-put_marks
returns-in_err-put_marks g c =
    let p = c.args.marked.now.plan in
    let ms = flat_map (mark_line c.args.buffers.now) c.args.marked.now.marks in
    let drawn = rw (c.plan.ensures.value, c.plan-plan.ensures) at c.in_ok-put_drawn.ensures in
    let done = rw c.plan-plan.ensures at c.in_ok-put_done.ensures in
    let named = rw c.marks.ensures at c.in_err-put_marks.ensures in
    Puts-then _ _ _ _ _ _ (drawn_text p) _ _ drawn
    (Puts-exit-then _ _ _ _ _ _ (flat_map (done_line_of p) (from_to 0 p.ranks)) ms _ _
    c.from_residual-in_err-put_marks.ensures.0 done named)

pub returns : goal.returns
returns g c =
    let p = c.args.marked.now.plan in
    let ms = flat_map (mark_line c.args.buffers.now) c.args.marked.now.marks in
    let drawn = rw (c.plan.ensures.value, c.plan-plan.ensures) at c.in_ok-put_drawn.ensures in
    let done = rw c.plan-plan.ensures at c.in_ok-put_done.ensures in
    let named = rw c.marks.ensures at c.in_ok-put_marks.ensures in
    Puts-then _ _ _ _ _ _ (drawn_text p) _ _ drawn
    (Puts-then _ _ _ _ _ _ (flat_map (done_line_of p) (from_to 0 p.ranks)) _ _ done
    (Puts-then _ _ _ _ _ _ ms (plan_line EndLine) _ named c.plan_line.ensures))
