use Rattle.std.proofs.Common.{◌≡◌, map}
use Rattle.plan_core.specs.Plan.{from_to}
use Rattle.plan_core.specs.Draw.{add_all}
use Rattle.schedule_compiler.specs.shapes.Drawing.{input_cell}
use Rattle.schedule_compiler.proofs.shapes.drawing.draw_inputs.Given as goal

abbrev pub invariant-loop-r : goal.invariant-loop-r
invariant-loop-r l = l.plan ≡ add_all l.initial.plan (map (input_cell l.buffer) (from_to 0 l.r))
