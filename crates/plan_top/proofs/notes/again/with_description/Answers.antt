-- What is read of a plan's text.
use Rattle.std.proofs.Common.{ap, sym}
use Rattle.plan_top.specs.notes.Again.{with_plan}
use Rattle.plan_top.proofs.notes.again.with_description.Goals as goal

pub returns-in-Ok : goal.returns-in-Ok
returns-in-Ok c =
    ap (with_plan c.args.line c.args.description)
    (sym (rw (c.ranks-ranks.ensures.value, c.input_count.ensures.value, c.buffers.ensures.value, c.shape-shape.ensures.shape)
    at c.in-Ok.ensures))

pub returns-in-Err-Refused : goal.returns-in-Err-Refused
returns-in-Err-Refused c =
    ap (with_plan c.args.line c.args.description)
    (sym (rw (
      c.in-Err-Refused.field-0-is,
      c.ranks-ranks.ensures.value,
      c.input_count.ensures.value,
      c.buffers.ensures.value,
      c.shape-shape.ensures.shape,
    ) at c.in-Err-Refused.ensures))
