-- The step that is named is one of the shape.
use Rattle.schedule_compiler.specs.shapes.Footprint.Excess.{Links, Bytes}
use Rattle.rank_process.proofs.Steps.{at-step}
use Rattle.rank_process.proofs.asking.plan_fault.Goals as goal

pub step_line-requires : goal.step_line-requires
step_line-requires c = at-step c.args.shape.now c.in-TooMany.step Links (rw c.in-TooMany.is at c.requires)

pub step_line-requires-in-TooLarge : goal.step_line-requires-in-TooLarge
step_line-requires-in-TooLarge c = at-step c.args.shape.now c.in-TooLarge.step Bytes (rw c.in-TooLarge.is at c.requires)
